-- WHAT THE CALLS MEAN, in terms of paths, cycles and valid sheets. Assumes nothing.
use mathlib.Core.Path.{◌≡◌, refl, sym, ap, ap₂, ◌∙◌}
use mathlib.Core.Logic.{inl, inr, ◌↔◌}
use mathlib.Core.List.{[], ◌∷◌}
use Prim.Native.Nat.{ℕ, ◌<◌}
use native.Mathlib.Decide.{ℕ_discrete}
use native.Mathlib.Omega.{arith}
use lib.ListN.{length}
use Rattle.word.specs.Bit.{bit}
use Rattle.graph.specs.Graph.{Cycle}
use Rattle.graph.proofs.Walks.{cycle_cong, paths_cong}
use Rattle.answer.specs.declared.Answer.{Answer}
use Rattle.answer.specs.Table.{◌gives◌, First}
use Rattle.answer.specs.Answers.{answer, decided}
use Rattle.sheet_theory.specs.Layout.{size, row_at, count_at, edge_at}
use Rattle.sheet_theory.specs.Lent.{Lent, Lends}
use Rattle.sheet_theory.specs.Conditions.{BadVertices, BadLength, StrayRow}
use Rattle.sheet_theory.specs.Valid.{Valid}
use Rattle.answer.proofs.TableLaws.{first_only, first_cong}
use Rattle.answer.proofs.ByNumber.{first_not}
use Rattle.sheet_theory.proofs.ShapeLaws.{accepted_shape, shape_passed, bad_length_cong}
use Rattle.answer.proofs.AnswerLaws.{answer_ext}
use Rattle.sheet_theory.proofs.LayoutLaws.{length_redone, row_redone}
use Rattle.sheet_theory.proofs.ValidLaws.{valid_only}
use Rattle.sheet_theory.proofs.SetBitsLaws.{set_bits_cong}
use Rattle.recount_theory.specs.Calls.{row_conditions, recount_conditions, Recounted, Recount, validate_conditions, Validate}

-- ---- recount

-- what an accepted recount has not found
record Sound (n : ℕ) (s : Lent) : Type 0 where
  shape : Lends n s
  rows : ¬ (StrayRow n s.words)
  acyclic : ¬ (Cycle n (edge_at s.words))

sound : (n : ℕ) (s : Lent) → First (recount_conditions n s) 0 → Sound n s
sound n s f =
    let not = first_not (recount_conditions n s) 0 f in
    record { shape = accepted_shape n s (row_conditions n s) f; rows = not 4 refl; acyclic = not 8 refl }

module _ (n : ℕ) (s t : Lent) (h : Recounted n s t) (long : length s.words ≡ size n) where
  recounted_long : length t.words ≡ length s.words
  recounted_long = ap (λ (l : Lent). length l.words) h.kept ∙ length_redone n _ _ s.words

  recounted_row : (i : ℕ) → i < n → row_at t.words i ≡ row_at s.words i
  recounted_row i hi = ap (λ (l : Lent). row_at l.words i) h.kept ∙ row_redone n (row_at s.words) (count_at n t.words) s.words long i hi

  recounted_edge : (i j : ℕ) → i < n → j < n → edge_at s.words i j ≡ edge_at t.words i j
  recounted_edge i j hi hj = ap (λ (x : ℕ). bit x j) (sym (recounted_row i hi))

  recounted_valid : Sound n s → Valid n t
  recounted_valid o = record {
    shape = record { low = o.shape.low; high = o.shape.high; long = recounted_long ∙ long };
    rows = λ q. o.rows (q.0, q.1, rw (recounted_row q.0 q.1) at q.2);
    acyclic = λ q. o.acyclic (cycle_cong n (edge_at t.words) (edge_at s.words) (λ i j hi hj. sym (recounted_edge i j hi hj)) q);
    counts = λ i j hi hj. paths_cong n (edge_at s.words) (edge_at t.words) recounted_edge i j (count_at n t.words i j) (h.counts i j hi hj);
  }

-- an accepted recount leaves as many words as there were
pub recount_long : (n : ℕ) (s : Lent) (r : Answer) (t : Lent) → Recount n s r t → r.number ≡ 0 → length t.words ≡ length s.words
recount_long n s r t h z = recounted_long n s t (h.accepted z) (sound n s (rw z at h.number)).shape.long

-- an accepted recount leaves a valid sheet with the same rows
pub recount_valid : (n : ℕ) (s : Lent) (r : Answer) (t : Lent) → Recount n s r t → r.number ≡ 0 → Valid n t × ((i : ℕ) → i < n → row_at t.words i ≡ row_at s.words i)
recount_valid n s r t h z =
    let o = sound n s (rw z at h.number) in
    (recounted_valid n s t (h.accepted z) o.shape.long o, recounted_row n s t (h.accepted z) o.shape.long)

-- ---- recount looks at the rows alone

module _ (n : ℕ) (s s' : Lent) (same : (i : ℕ) → i < n → row_at s.words i ≡ row_at s'.words i) where
  same_stray : StrayRow n s.words → StrayRow n s'.words
  same_stray q = (q.0, q.1, rw (same q.0 q.1) at q.2)

  same_cycle : Cycle n (edge_at s.words) → Cycle n (edge_at s'.words)
  same_cycle = cycle_cong n (edge_at s.words) (edge_at s'.words) (λ i j hi hj. ap (λ (x : ℕ). bit x j) (same i hi))

module _ (n : ℕ) (s s' : Lent) (long : length s.words ≡ length s'.words) (same : (i : ℕ) → i < n → row_at s.words i ≡ row_at s'.words i) where
  back : (i : ℕ) → i < n → row_at s'.words i ≡ row_at s.words i
  back i hi = sym (same i hi)

  same_first : (k : ℕ) → First (recount_conditions n s) k → First (recount_conditions n s') k
  same_first k =
      first_cong {P = BadVertices n} {Q = BadVertices n} 1 (BadLength n s gives 2 ∷ row_conditions n s) (BadLength n s' gives 2 ∷ row_conditions n s') k ((λ p. p), (λ p. p))
      (first_cong {P = BadLength n s} {Q = BadLength n s'} 2 (row_conditions n s) (row_conditions n s') k (bad_length_cong n s s' long, bad_length_cong n s' s (sym long))
      (first_cong 4 (Cycle n (edge_at s.words) gives 8 ∷ []) (Cycle n (edge_at s'.words) gives 8 ∷ []) k (same_stray n s s' same, same_stray n s' s back)
      (first_cong 8 [] [] k (same_cycle n s s' same, same_cycle n s' s back) (λ p. p))))

  -- two sheets with equal rows get the same answer, and if it is accepted, the same words
  pub recount_rows : (r r' : Answer) (t t' : Lent) → Recount n s r t → Recount n s' r' t' → (r ≡ r') × (r.number ≡ 0 → t ≡ t')
  recount_rows r r' t t' h h' =
      let e : r.number ≡ r'.number = first_only (recount_conditions n s') _ _ (same_first r.number h.number) h'.number in (
        answer_ext r r' e (h.place ∙ sym h'.place)
            (h.value ∙ ap₂ (λ (k x : ℕ). decided k x 0) e (set_bits_cong n s.words s'.words same) ∙ sym h'.value),
        λ z.
            let v = recount_valid n s r t h z in
            let v' = recount_valid n s' r' t' h' (sym e ∙ z) in
            valid_only n t t' v.0 v'.0 (λ i hi. v.1 i hi ∙ same i hi ∙ sym (v'.1 i hi)),
      )

-- the contract of recount leaves nothing open: it fixes the answer and every word
pub recount_only : (n : ℕ) (s : Lent) (r r' : Answer) (t t' : Lent) → Recount n s r t → Recount n s r' t' → (r ≡ r') × (t ≡ t')
recount_only n s r r' t t' h h' =
    let e = recount_rows n s s refl (λ i hi. refl) r r' t t' h h' in (
      e.0,
      elim (ℕ_discrete r.number 0) [
        | yes z ↦ e.1 z
        | no d ↦ h.refused d ∙ sym (h'.refused (λ z. d (ap (λ (x : Answer). x.number) e.0 ∙ z)))
      ],
    )

-- words with the rows of a valid sheet, whatever their counts, recount to it; so a valid sheet recounts to itself
pub recount_same : (n : ℕ) (s t : Lent) → Valid n s → length t.words ≡ length s.words → ((i : ℕ) → i < n → row_at t.words i ≡ row_at s.words i)
    → (r : Answer) (u : Lent) → Recount n t r u → (r.number ≡ 0) × (u ≡ s)
recount_same n s t v long same r u h =
    let z : r.number ≡ 0
    = first_only (recount_conditions n t) r.number 0 h.number
    (shape_passed n t (record { low = v.shape.low; high = v.shape.high; long = long ∙ v.shape.long }) (row_conditions n t) 0
    (inr (λ q. v.rows (same_stray n t s same q), inr (λ q. v.acyclic (same_cycle n t s same q), refl)))) in
    let w = recount_valid n t r u h z in
    (z, valid_only n u s w.0 v (λ i hi. w.1 i hi ∙ same i hi))

-- ---- validate

-- the value is 1 exactly if the sheet is valid
pub validate_iff : (n : ℕ) (s : Lent) (r : Answer) → Validate n s r → (r.value ≡ 1) ↔ Valid n s
validate_iff n s r h = (
  λ e. elim h.value [ inl p ↦ p.0 | inr p ↦ absurd (omega (arith, p.1, e)) ],
  λ v. elim h.value [ inl p ↦ p.1 | inr p ↦ absurd (p.0 v) ],
)

-- so a valid sheet is accepted with the value 1
pub valid_validates : (n : ℕ) (s : Lent) → Valid n s → Validate n s (answer 0 0 1)
valid_validates n s v = record { number = shape_passed n s v.shape [] 0 refl; place = refl; value = inl (v, refl) }

-- the contract of validate leaves nothing open
pub validate_only : (n : ℕ) (s : Lent) (r r' : Answer) → Validate n s r → Validate n s r' → r ≡ r'
validate_only n s r r' h h' =
    answer_ext r r' (first_only (validate_conditions n s) _ _ h.number h'.number) (h.place ∙ sym h'.place)
    (elim h.value [
      | inl p ↦ p.1 ∙ sym ((validate_iff n s r' h').1 p.0)
      | inr p ↦ elim h'.value [ inl q ↦ absurd (p.0 q.0) | inr q ↦ p.1 ∙ sym q.1 ]
    ])
