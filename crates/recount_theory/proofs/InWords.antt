-- WHAT RECOUNT AND VALIDATE ANSWER AND LEAVE, spelled out in document 01's words. A definition that is changed, together with the code
-- that follows it, fails here. Assumes nothing.
use mathlib.Core.Path.{◌≡◌, ◌∙◌}
use mathlib.Core.Logic.{◌⊎◌}
use mathlib.Core.List.{[], ◌∷◌}
use Prim.Native.Nat.{ℕ, ◌<◌}
use lib.ListN.{length, get_or}
use Rattle.graph.specs.Graph.{Exactly, IsPath, Cycle}
use Rattle.answer.specs.declared.Answer.{Answer}
use Rattle.answer.specs.Table.{◌gives◌, First}
use Rattle.sheet_theory.specs.Layout.{set_bits}
use Rattle.sheet_theory.specs.Lent.{Lent}
use Rattle.sheet_theory.specs.Conditions.{sized, altering}
use Rattle.sheet_theory.specs.Valid.{Valid}
use Rattle.sheet_theory.proofs.InWords.{edge, count, ones, Stray, set_bits_words}
use Rattle.answer.proofs.AnswerLaws.{decided_new}
use Rattle.recount_theory.specs.Calls.{Recount, Validate}
use Rattle.recount_theory.proofs.Meaning.{recount_long, recount_valid}

module _ (n : ℕ) (s : Lent) where
  module _ (r : Answer) (t : Lent) (h : Recount n s r t) where
    -- 4: a row has a bit at n or above. 8: there is a cycle.
    pub recount_words : First (altering n s (((i : ℕ) × (i < n) × Stray n (get_or s.words i 0)) gives 4 ∷ Cycle n (edge s) gives 8 ∷ [])) r.number
    recount_words = h.number

    -- the value is the number of set bits in all rows
    pub recount_value_words : r.number ≡ 0 → r.value ≡ ones n s
    recount_value_words z = h.value ∙ decided_new r.number (set_bits n s.words) 0 z ∙ set_bits_words n s

    -- as many words as before, the rows as they were, and each count the number of paths over them
    pub recount_leaves_words : r.number ≡ 0 → (length t.words ≡ length s.words) × ((i : ℕ) → i < n → get_or t.words i 0 ≡ get_or s.words i 0)
        × ((i j : ℕ) → i < n → j < n → Exactly (IsPath n (edge s) i j) (count n t i j))
    recount_leaves_words z = (recount_long n s r t h z, (recount_valid n s r t h z).1, (h.accepted z).counts)

  -- every sheet of the right size is answered; 1 if it is valid, and 0 if not
  pub validate_words : (r : Answer) → Validate n s r
      → First (sized n s []) r.number × ((Valid n s × (r.value ≡ 1)) ⊎ ((¬ (Valid n s)) × (r.value ≡ 0)))
  validate_words r h = (h.number, h.value)
