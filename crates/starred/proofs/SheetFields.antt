-- The fields of `EveryCall` for the calls that are no edits, no questions of paths and no plans, and the bound. Assumes nothing.
use mathlib.Core.Path.{◌≡◌, refl, sym, ap, ◌∙◌}
use mathlib.Core.Logic.{◌⊎◌}
use mathlib.Core.List.{List, [], ◌∷◌}
use Prim.Native.Nat.{ℕ, ◌-◌, ◌^◌, ◌≤◌, ◌<◌}
use native.Mathlib.Decide.{ℕ_discrete}
use native.Mathlib.Omega.{arith}
use lib.ListN.{length}
use lib.Pow.{pow_pos}
use Rattle.graph.specs.Graph.{Exactly, IsPath, Cycle}
use Rattle.graph.proofs.Bound.{bound_self, bound, paths_below}
use Rattle.answer.specs.declared.Answer.{Answer}
use Rattle.answer.specs.Table.{◌gives◌}
use Rattle.sheet_theory.specs.Layout.{most_vertices, empty_sheet}
use Rattle.sheet_theory.specs.Lent.{Lent, lent}
use Rattle.sheet_theory.specs.Valid.{Valid}
use Rattle.sheet_theory.specs.Calls.{empty_answer, empty_after, path_count_answer}
use Rattle.sheet_theory.proofs.Refusals.{empty_refused, path_count_refused}
use Rattle.sheet_theory.proofs.LayoutLaws.{size_le, greatest}
use Rattle.sheet_theory.proofs.Meaning.{valid_edges_le}
use Rattle.sheet_theory.proofs.Complete.{most_edges_reached}
use Rattle.sheet_theory.proofs.InWords.{maker_words, sized_words, altering_words, set_bits_words, empty_words, empty_leaves_words, path_count_words, path_count_value_words}
use Rattle.recount_theory.specs.Calls.{Recount, Validate}
use Rattle.recount_theory.proofs.Refusals.{recount_refused, validate_refused}
use Rattle.recount_theory.proofs.InWords.{recount_words, recount_value_words, recount_leaves_words, validate_words}
use Rattle.starred.specs.EveryCall.{row, edge, count, ones, Answers, Leaves, Tells, every, Stray}

value : (r r' : Answer) → r ≡ r' → r.value ≡ r'.value
value r r' e = ap (λ (x : Answer). x.value) e

-- a name that begins with `SaidOf` is the page's line of a call, said of any answer, and of any words that are left
module _ (n : ℕ) (s : Lent) where
  abbrev pub SaidOfEmpty : Answer → Lent → Type 0
  SaidOfEmpty r t = Answers (every n s []) r (r.value ≡ 0) × Leaves r s t (Valid n t × ((i : ℕ) → i < n → row t i ≡ 0))

  pub empty_field : SaidOfEmpty (empty_answer n s) (empty_after n s)
  empty_field = (
    record { number = empty_words n s; place = refl; accepted = λ z. (empty_leaves_words n s z).0; refused = λ d. value _ _ (empty_refused n s d).0 },
    (λ z. let w = empty_leaves_words n s z in (w.1, w.2), λ d. (empty_refused n s d).1),
  )

  abbrev pub SaidOfPathCount : ℕ → ℕ → Answer → Type 0
  SaidOfPathCount i j r = Answers (every n s (((n ≤ i) ⊎ (n ≤ j)) gives 3 ∷ [])) r (r.value ≡ count n s i j)

  pub path_count_field : (i j : ℕ) → SaidOfPathCount i j (path_count_answer n s i j)
  path_count_field i j = record {
    number = path_count_words n s i j;
    place = refl;
    accepted = path_count_value_words n s i j;
    refused = λ d. value _ _ (path_count_refused n s i j d);
  }

  abbrev pub SaidOfRecount : Answer → Lent → Type 0
  SaidOfRecount r t =
      Answers (every n s (((i : ℕ) × (i < n) × Stray n (row s i)) gives 4 ∷ Cycle n (edge s) gives 8 ∷ [])) r (r.value ≡ ones n s)
      × Leaves r s t ((length t.words ≡ length s.words) × ((i : ℕ) → i < n → row t i ≡ row s i)
      × ((i j : ℕ) → i < n → j < n → Exactly (IsPath n (edge s) i j) (count n t i j)))

  pub recount_field : (r : Answer) (t : Lent) → Recount n s r t → SaidOfRecount r t
  recount_field r t h = (
    record {
      number = altering_words n s (((i : ℕ) × (i < n) × Stray n (row s i)) gives 4 ∷ Cycle n (edge s) gives 8 ∷ []) r.number (recount_words n s r t h);
      place = h.place;
      accepted = recount_value_words n s r t h;
      refused = λ d. value _ _ (recount_refused n s r t h d).0;
    },
    (recount_leaves_words n s r t h, λ d. (recount_refused n s r t h d).1),
  )

  abbrev pub SaidOfValidate : Answer → Type 0
  SaidOfValidate r = Answers (every n s []) r (Tells r (Valid n s))

  pub validate_field : (r : Answer) → Validate n s r → SaidOfValidate r
  validate_field r h = record {
    number = sized_words n s [] r.number (validate_words n s r h).0;
    place = h.place;
    accepted = λ z. (validate_words n s r h).1;
    refused = λ d. value _ _ (validate_refused n s r h d);
  }

  pub sizes_field : (Valid n s → (length s.words ≤ 4160) × (ones n s ≤ 2016)) × ((t : Lent) × Valid 64 t × (length t.words ≡ 4160) × (ones 64 t ≡ 2016))
  sizes_field = (
    λ v. (omega (arith, v.shape.long, size_le n v.shape.high, greatest), omega (arith, set_bits_words n s, valid_edges_le n s v)),
    let x = most_edges_reached in (x.0, x.1, x.1.shape.long ∙ greatest, sym (set_bits_words 64 x.0) ∙ x.2),
  )

-- the sheet of the type's maker
abbrev pub SaidOfMaker : List ℕ → Type 0
SaidOfMaker l = Valid 64 (lent l) × ((i : ℕ) → i < 64 → row (lent l) i ≡ 0)

pub maker_field : SaidOfMaker (empty_sheet most_vertices)
maker_field = (maker_words.1, maker_words.2)

-- with 2 vertices or more at most 2 ^ (n - 2) paths lead from one to another, or to itself
pub bound_field : (n : ℕ) (w : ℕ → ℕ → ℕ) → ¬ (Cycle n w) → (i j k : ℕ) → i < n → j < n → Exactly (IsPath n w i j) k
    → (n ≤ 64 → k < 2 ^ 64) × (2 ≤ n → k ≤ 2 ^ (n - 2))
bound_field n w acyclic i j k hi hj x = (
  λ high. paths_below n w acyclic high i j k hi hj x,
  λ low. elim (ℕ_discrete i j) [
    | yes e ↦ omega (arith, bound_self n w i k hi (rw (← e) at x), pow_pos (n - 2))
    | no d ↦ bound n w acyclic i j k hi hj d x
  ],
)
