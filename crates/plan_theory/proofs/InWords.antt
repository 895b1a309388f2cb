-- WHAT READING AND WRITING A PLAN DO, spelled out in document 01's words: over bytes, bits and records, and with the numbers written out.
-- A definition that is changed, together with the code that follows it, fails here. Assumes nothing.
use mathlib.Core.Path.{◌≡◌, refl, sym, ap, subst, ◌∙◌}
use mathlib.Core.Logic.{◌⊎◌, inl, inr}
use mathlib.Core.List.{List, [], ◌∷◌, ◌++◌}
use Prim.Native.Nat.{ℕ, zero, suc, ◌+◌, ◌*◌, ◌/◌, ◌%◌, ◌≤◌, ◌<◌}
use native.Mathlib.Decide.{ℕ_discrete}
use native.Mathlib.Omega.{arith}
use lib.ListN.{length, get_or, take, drop}
use lib.Seq.{take_at, drop-drop}
use Rattle.std.proofs.Common.{Ok, Err}
use Rattle.sums.specs.Sum.{sum}
use Rattle.sums.specs.Gather.{gather}
use Rattle.sums.proofs.SumLaws.{sum_cong, sum_far, mul_sum}
use Rattle.sums.proofs.GatherLaws.{gather_length, gather_place}
use Rattle.word.proofs.BitLaws.{bit_cases}
use Rattle.text.specs.Text.{written}
use Rattle.text.proofs.TextLaws.{written_length, written_after}
use Rattle.record.specs.declared.Record.TheVariants.{Insert, Delete}
use Rattle.record.specs.Record.{Reading}
use Rattle.record.specs.Reader.{record_at}
use Rattle.record.proofs.InWords.{insert_words, delete_words, malformed_words}
use Rattle.answer.specs.declared.Answer.{Answer}
use Rattle.answer.specs.Table.{◌gives◌, Conditions, First}
use Rattle.answer.proofs.TableLaws.{first_accepts}
use Rattle.answer.proofs.AnswerLaws.{decided_new}
use Rattle.sheet_theory.specs.Lent.{Lent}
use Rattle.sheet_theory.specs.Valid.{Valid, valid_conditions, altering_valid}
use Rattle.sheet_theory.proofs.ValidLaws.{accepted_valid, valid_rest}
use Rattle.sheet_theory.proofs.InWords.{edge, ones, set_bits_words}
use Rattle.edit_theory.specs.Edit.{insert_edge, delete_edge}
use Rattle.edit_theory.specs.Outcome.{edit_answer, edit_after}
use Rattle.plan_theory.specs.Records.{number_on, left_by, Applied, applied}
use Rattle.plan_theory.specs.PlanOf.{edge_bytes, row_bytes, plan_of}
use Rattle.plan_theory.specs.Calls.{applied_plan, applied_answer, ReadPlan, WritePlan}
use Rattle.plan_theory.proofs.RecordsLaws.{first_records, records_first}
use Rattle.plan_theory.proofs.AppliedLaws.{applied_next, applied_here}
use Rattle.plan_theory.proofs.Meaning.{read_early, read_refused, read_accepted}

-- the record of a letter, u and v; and the 8 bytes from 8 × m on are that
abbrev line : ℕ → ℕ → ℕ → List ℕ
line letter u v = letter ∷ 32 ∷ (48 + u / 10) ∷ (48 + u % 10) ∷ 32 ∷ (48 + v / 10) ∷ (48 + v % 10) ∷ 10 ∷ []

abbrev Form : List ℕ → ℕ → ℕ → ℕ → ℕ → Type 0
Form bytes m letter u v = (u < 100) × (v < 100) × (take 8 (drop (8 * m) bytes) ≡ line letter u v)

-- ---- one record

-- the record m of a plan, on the sheet q
module _ (n : ℕ) (plan : List ℕ) (m : ℕ) (q : Lent) where
  -- its number is k and it leaves t
  abbrev Gives : ℕ → Lent → Type 0
  Gives k t = (number_on n q (record_at plan m) ≡ k) × (left_by n q (record_at plan m) ≡ t)

  -- L (76) inserts an edge, T (84) deletes one, and any other is 14 and leaves the sheet as it was
  abbrev Done : Type 0
  Done =
      ((u : ℕ) × (v : ℕ) × Form plan m 76 u v × Gives (edit_answer (insert_edge n u v) q).number (edit_after (insert_edge n u v) q))
      ⊎ ((u : ℕ) × (v : ℕ) × Form plan m 84 u v × Gives (edit_answer (delete_edge n u v) q).number (edit_after (delete_edge n u v) q))
      ⊎ (((u v : ℕ) → (¬ (Form plan m 76 u v)) × (¬ (Form plan m 84 u v))) × Gives 14 q)

  pub record_words : Done
  unfolding number_on
  record_words = go (record_at plan m) refl
    where
      on : {x : Reading} → record_at plan m ≡ x → Gives (number_on n q x) (left_by n q x)
      on e = (ap (number_on n q) e, ap (left_by n q) e)

      go : (x : Reading) → record_at plan m ≡ x → Done
      go (Ok (Insert u v)) e = inl (u, v, (insert_words plan m u v).0 e, on e)
      go (Ok (Delete u v)) e = inr (inl (u, v, (delete_words plan m u v).0 e, on e))
      go (Err x) e = inr (inr ((malformed_words plan m).0 e, on e))

-- ---- records one after the other

-- T m q says that the sheet is q once the first m records of the plan are taken; a record that is not refused is taken after those before it
module _ (n : ℕ) (plan : List ℕ) (T : ℕ → Lent → Type 0)
    (next : (m : ℕ) (q : Lent) → T m q → number_on n q (record_at plan m) ≡ 0 → T (suc m) (left_by n q (record_at plan m))) where
  -- k, p and q are the number, the place and the sheet that the records come to: all are taken, and the number and the place are 0; or the
  -- one after m others is refused, and its place is m + 1
  abbrev Come : ℕ → ℕ → Lent → Type 0
  Come k p q =
      ((k ≡ 0) × (p ≡ 0) × T (length plan / 8) q)
      ⊎ ((m : ℕ) × (m < length plan / 8) × T m q × (number_on n q (record_at plan m) ≡ k) × (¬ (k ≡ 0)) × (p ≡ suc m))

  abbrev Comes : Applied → Type 0
  Comes a = Come a.number a.place a.left

  -- from the record m on, of which j are left
  come_from : (j m : ℕ) (q : Lent) → m + j ≡ length plan / 8 → T m q → Comes (applied n (first_records j (drop (8 * m) plan)) q (suc m))
  unfolding applied first_records
  come_from zero m q e t = let all : m ≡ length plan / 8 = omega arith in inl (refl, refl, subst (λ (x : ℕ). T x q) all t)
  come_from (suc j) m q e t =
      let more = first_records j (drop 8 (drop (8 * m) plan)) in
      elim (ℕ_discrete (number_on n q (record_at plan m)) 0) [
        | no d ↦ subst Comes (sym (applied_here n (record_at plan m) more q (suc m) d)) (inr (m, omega arith, t, refl, d, refl))
        | yes z ↦
            let r = come_from j (suc m) (left_by n q (record_at plan m)) (omega arith) (next m q t z) in
            let far : 8 * m + 8 ≡ 8 * suc m = omega arith in
            let bytes : drop 8 (drop (8 * m) plan) ≡ drop (8 * suc m) plan = drop-drop 8 (8 * m) plan ∙ ap (λ (x : ℕ). drop x plan) far in
            subst Comes (sym (applied_next n (record_at plan m) more q (suc m) z
            ∙ ap (λ (l : List ℕ). applied n (first_records j l) (left_by n q (record_at plan m)) (suc (suc m))) bytes)) r
      ]

  pub applied_words : (s : Lent) → T 0 s → Comes (applied_plan n s plan)
  applied_words s t =
      subst (λ (l : List Reading). Comes (applied n l s 1)) (sym (records_first plan)) (come_from (length plan / 8) 0 s (omega arith) t)

  -- ---- read_plan

  -- what is looked for before the first record. 13: the length is not a multiple of 8, or over 32,768 bytes.
  module _ (s : Lent) (r : Answer) (t : Lent) where
    abbrev first : Conditions
    first = altering_valid n s (((¬ (length plan % 8 ≡ 0)) ⊎ (32768 < length plan)) gives 13 ∷ [])

    -- it is refused before the first record; or all records are taken; or one is refused, and those before it are undone
    abbrev Early : Type 0
    Early = First first r.number × (¬ (r.number ≡ 0)) × (r.place ≡ 0) × (r.value ≡ 0) × (t ≡ s)

    abbrev Whole : Type 0
    Whole = First first 0 × (r.number ≡ 0) × (r.place ≡ 0) × (r.value ≡ ones n t) × T (length plan / 8) t × Valid n t

    abbrev Stopped : Type 0
    Stopped =
        (m : ℕ) × (q : Lent) × First first 0 × (m < length plan / 8) × T m q × (number_on n q (record_at plan m) ≡ r.number)
        × (¬ (r.number ≡ 0)) × (r.place ≡ suc m) × (r.value ≡ 0) × (t ≡ s)

    pub read_words : T 0 s → ReadPlan n s plan r t → Early ⊎ Whole ⊎ Stopped
    read_words start h =
        elim (ℕ_discrete h.k 0) [
          | no d ↦
              let e = read_early n s plan r t h h.k d h.first in
              let c : ¬ (r.number ≡ 0) = λ z. d (sym (ap (λ (x : Answer). x.number) e) ∙ z) in
              inl (rw e h.first, c, ap (λ (x : Answer). x.place) e, ap (λ (x : Answer). x.value) e, (read_refused n s plan r t h c).0)
          | yes z ↦
              let p = applied_plan n s plan in
              let e : r ≡ applied_answer n p = rw z at h.answers in
              let f : First first 0 = rw z at h.first in
              elim (applied_words s start) [
                | inl w ↦
                    let c : r.number ≡ 0 = ap (λ (x : Answer). x.number) e ∙ w.0 in
                    let a = read_accepted n s plan r t h c in
                    let left : t ≡ p.left = h.leaves ∙ decided_new r.number p.left s c in
                    inr (inl (
                      f,
                      c,
                      ap (λ (x : Answer). x.place) a.answered,
                      ap (λ (x : Answer). x.value) a.answered ∙ set_bits_words n t,
                      rw left w.2,
                      a.valid_after,
                    ))
                | inr w ↦
                    let c : r.number ≡ p.number = ap (λ (x : Answer). x.number) e in
                    let d : ¬ (r.number ≡ 0) = rw c w.4 in
                    let x = read_refused n s plan r t h d in
                    inr (inr (w.0, p.left, f, w.1, w.2, w.3 ∙ sym c, d, ap (λ (x : Answer). x.place) e ∙ w.5, x.1, x.0))
              ]
        ]

-- ---- write_plan

module _ (n : ℕ) (s : Lent) where
  edge_bytes_lem : (i j : ℕ) → length (edge_bytes s i j) ≡ 8 * edge s i j
  unfolding edge_bytes
  edge_bytes_lem i j = elim (bit_cases (get_or s.words i 0) j) [ inl e ↦ rw e refl | inr e ↦ rw e refl ]

  -- the bytes of the first j places of row i, and of the first i rows
  part_bytes : (i j : ℕ) → length (gather j (edge_bytes s i)) ≡ 8 * sum j (edge s i)
  part_bytes i j = gather_length j (edge_bytes s i) ∙ sum_cong j _ _ (λ b hb. edge_bytes_lem i b) ∙ sym (mul_sum j 8 (edge s i))

  module _ (v : Valid n s) where
    -- a row has no bit at n or above
    row_ones : (i : ℕ) → i < n → sum 64 (edge s i) ≡ sum n (edge s i)
    row_ones i hi =
        sum_far n 64 (edge s i) v.shape.high
        (λ j hj _. elim (bit_cases (get_or s.words i 0) j) [ inl e ↦ e | inr e ↦ absurd (v.rows (i, hi, (j, hj, e))) ])

    rows_bytes : (i : ℕ) → i ≤ n → length (gather i (row_bytes n s)) ≡ 8 * sum i (λ a. sum 64 (edge s a))
    rows_bytes i hi =
        gather_length i (row_bytes n s)
        ∙ sum_cong i _ _ (λ a ha. part_bytes a n ∙ ap (λ (x : ℕ). 8 * x) (sym (row_ones a (omega arith))))
        ∙ sym (mul_sum i 8 (λ a. sum 64 (edge s a)))

    -- a plan is 8 bytes for each edge
    pub plan_bytes_words : length (plan_of n s) ≡ 8 * ones n s
    plan_bytes_words = rows_bytes n (omega arith)

    -- and in what begins with it, the record of an edge stands after those of the edges before it, by from, then to
    pub plan_place_words : (l : List ℕ) (i j : ℕ) → i < n → j < n → edge s i j ≡ 1
        → take 8 (drop (8 * (sum i (λ a. sum 64 (edge s a)) + sum j (edge s i))) (plan_of n s ++ l)) ≡ line 76 i j
    unfolding edge_bytes
    plan_place_words l i j hi hj e =
        let x = gather_place n (row_bytes n s) i hi l in
        let y = gather_place n (edge_bytes s i) j hj x.0 in
        let front = length (gather i (row_bytes n s)) in
        let part = length (gather j (edge_bytes s i)) in
        let far : 8 * (sum i (λ a. sum 64 (edge s a)) + sum j (edge s i)) ≡ front + part
        = omega (arith, rows_bytes i (omega arith), part_bytes i j) in
        let whole : edge_bytes s i j ≡ line 76 i j = rw e refl in
        ap (λ (k : ℕ). take 8 (drop k (plan_of n s ++ l))) far
        ∙ ap (take 8) (sym (drop-drop part front (plan_of n s ++ l)) ∙ ap (drop part) x.1 ∙ y.1)
        ∙ take_at (edge_bytes s i j) y.0 8 (ap length whole)
        ∙ whole

  module _ (p : List ℕ) (r : Answer) (q : List ℕ) (h : WritePlan n s p r q) where
    -- 10: the buffer is under 8 bytes an edge
    abbrev short : Conditions
    short = (length p < 8 * ones n s) gives 10 ∷ []

    pub write_words : First (valid_conditions n s short) r.number
    write_words = rw (← set_bits_words n s) h.number

    module _ (z : r.number ≡ 0) where
      write_valid : Valid n s
      write_valid = accepted_valid n s short (rw z at write_words)

      buffer : q ≡ written (plan_of n s) p
      buffer = h.bytes ∙ decided_new r.number (written (plan_of n s) p) p z

      -- the value is in bytes, and the bytes after them stay
      pub write_value_words : r.value ≡ 8 * ones n s
      write_value_words = h.value ∙ decided_new r.number (length (plan_of n s)) 0 z ∙ plan_bytes_words write_valid

      pub write_length_words : length q ≡ length p
      write_length_words =
          let fits : ¬ (length p < 8 * ones n s) = (first_accepts (valid_rest n s write_valid short r.number write_words)).0 z in
          ap length buffer ∙ written_length (plan_of n s) p (omega (arith, plan_bytes_words write_valid, fits))

      pub write_rest_words : (x : ℕ) → 8 * ones n s ≤ x → get_or q x 0 ≡ get_or p x 0
      write_rest_words x l =
          ap (λ (b : List ℕ). get_or b x 0) buffer ∙ written_after (plan_of n s) p x (omega (arith, plan_bytes_words write_valid))

      -- the record of an edge stands in the buffer after those of the edges before it
      pub write_place_words : (i j : ℕ) → i < n → j < n → edge s i j ≡ 1 → Form q (sum i (λ a. sum 64 (edge s a)) + sum j (edge s i)) 76 i j
      write_place_words i j hi hj e =
          let high = write_valid.shape.high in (omega arith, omega arith, rw buffer (plan_place_words write_valid _ i j hi hj e))
