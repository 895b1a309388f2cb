-- Only one answer, and one sheet or buffer afterwards, meet what the page `EveryCall` says of a plan read and of a plan written; of a plan
-- read, if that is so of the insertion and the deletion of one edge. Assumes nothing.
use mathlib.Core.Path.{◌≡◌, sym, ap, subst, ◌∙◌}
use mathlib.Core.List.{List, [], ◌∷◌}
use Prim.Native.Nat.{ℕ, zero, suc, ◌+◌, ◌-◌, ◌*◌, ◌/◌, ◌%◌, ◌≤◌, ◌<◌}
use native.Mathlib.Decide.{ℕ_discrete, dec_lt}
use native.Mathlib.Omega.{arith}
use lib.ListN.{length, get_or, take, drop}
use lib.Seq.{get_or-take, get_or-drop, ext_get_or}
use Rattle.sums.specs.Sum.{sum}
use Rattle.record.proofs.RecordLaws.{encoded_injective}
use Rattle.answer.specs.declared.Answer.{Answer}
use Rattle.answer.specs.Table.{◌gives◌, Conditions, First}
use Rattle.answer.proofs.TableLaws.{first_only}
use Rattle.answer.proofs.AnswerLaws.{answer_ext}
use Rattle.sheet_theory.specs.Layout.{size}
use Rattle.sheet_theory.specs.Lent.{Lent}
use Rattle.sheet_theory.specs.Conditions.{BadLength}
use Rattle.sheet_theory.specs.Valid.{Valid}
use Rattle.sheet_theory.proofs.ValidLaws.{edge_le, accepted_valid}
use Rattle.starred.specs.Calls.{Calls}
use Rattle.starred.specs.EveryCall.{edge, ones, every, Form, RecordsTaken, PlanRead, RecordGives, before_records}
use Rattle.starred.specs.EveryCall.RecordGives.{inserts, deletes, malformed}
use Rattle.starred.specs.EveryCall.PlanRead.{early, taken, stopped}
use Rattle.starred.proofs.PlanFields.{SaidOfWritePlan}
use Rattle.starred.proofs.AnswersOnly.{calls_only}

-- ---- a plan read

-- the bytes of a record are those of one letter and two numbers
form_only : (bytes : List ℕ) (m a u v b x y : ℕ) → Form bytes m a u v → Form bytes m b x y → (a ≡ b) × (u ≡ x) × (v ≡ y)
form_only bytes m a u v b x y f g = encoded_injective a u v b x y (sym f.2 ∙ g.2)

-- only one answer, and one sheet afterwards, meet what c and d say of an insertion or a deletion of one edge
pub record SameEdits (c d : Calls) : Type 0 where
  pub insert_edge : (n : ℕ) (s : Lent) (u v : ℕ) (r w : Answer) (t q : Lent)
      → c.insert_edge n s u v r t → d.insert_edge n s u v w q → (r ≡ w) × (t ≡ q)
  pub delete_edge : (n : ℕ) (s : Lent) (u v : ℕ) (r w : Answer) (t q : Lent)
      → c.delete_edge n s u v r t → d.delete_edge n s u v w q → (r ≡ w) × (t ≡ q)

module _ (c d : Calls) (same : SameEdits c d) (n : ℕ) (plan : List ℕ) where
  -- so the record m gives one number on a sheet, and leaves one sheet
  module _ (m : ℕ) (s : Lent) (k l : ℕ) (t q : Lent) where
    number_of : {r w : Answer} → (r ≡ w) × (t ≡ q) → k ≡ r.number → l ≡ w.number → (k ≡ l) × (t ≡ q)
    number_of e f g = (f ∙ ap (λ (x : Answer). x.number) e.0 ∙ sym g, e.1)

    gives_only : RecordGives c n plan m s k t → RecordGives d n plan m s l q → (k ≡ l) × (t ≡ q)
    gives_only (inserts u v r f e h) (inserts x y w g b i) =
        let o = form_only plan m 76 u v 76 x y f g in
        number_of (same.insert_edge n s u v r w t q e (rw (sym o.1, sym o.2) at b)) h i
    gives_only (inserts u v r f e h) (deletes x y w g b i) = let o = form_only plan m 76 u v 84 x y f g in absurd (omega (arith, o.0))
    gives_only (inserts u v r f e h) (malformed g b i) = absurd ((g u v).0 f)
    gives_only (deletes u v r f e h) (inserts x y w g b i) = let o = form_only plan m 84 u v 76 x y f g in absurd (omega (arith, o.0))
    gives_only (deletes u v r f e h) (deletes x y w g b i) =
        let o = form_only plan m 84 u v 84 x y f g in
        number_of (same.delete_edge n s u v r w t q e (rw (sym o.1, sym o.2) at b)) h i
    gives_only (deletes u v r f e h) (malformed g b i) = absurd ((g u v).1 f)
    gives_only (malformed f e h) (inserts x y w g b i) = absurd ((f x y).0 g)
    gives_only (malformed f e h) (deletes x y w g b i) = absurd ((f x y).1 g)
    gives_only (malformed f e h) (malformed g b i) = (e ∙ sym b, h ∙ sym i)

  module _ (s : Lent) where
    -- so the first m records leave one sheet
    records_only : (m : ℕ) (t q : Lent) → RecordsTaken c n plan s m t → RecordsTaken d n plan s m q → t ≡ q
    records_only zero t q a b = a ∙ sym b
    records_only (suc m) t q a b =
        let e = records_only m a.0 b.0 a.1 b.1 in
        (gives_only m b.0 0 0 t q (subst (λ x. RecordGives c n plan m x 0 t) e a.2) b.2).1

    -- where by c the record m is refused, by d no more than m are taken
    module _ (m k : ℕ) (q u : Lent) (a : RecordsTaken c n plan s m q) (g : RecordGives c n plan m q k u) (z : ¬ (k ≡ 0)) where
      not_more : (j : ℕ) (t : Lent) → m < j → ¬ (RecordsTaken d n plan s j t)
      not_more zero t h b = omega (arith, h)
      not_more (suc j) t h b =
          elim (ℕ_discrete m j) [
            | yes e ↦
                let x = records_only m q b.0 a (rw (← e) at b.1) in
                z (gives_only m q k 0 u t g (subst (λ y. RecordGives d n plan m y 0 t) (sym x) (rw (← e) at b.2))).0
            | no f ↦ not_more j b.0 (omega (arith, h, f)) b.1
          ]

-- what is refused before the first record is not accepted there
not_early : (n : ℕ) (s : Lent) (plan : List ℕ) (k : ℕ) → First (before_records n s plan) k → ¬ (k ≡ 0) → ¬ (First (before_records n s plan) 0)
not_early n s plan k f d g = d (first_only (before_records n s plan) k 0 f g)

-- and with c and d exchanged
turned : (c d : Calls) → SameEdits c d → SameEdits d c
turned c d same = record {
  insert_edge = λ n s u v r w t q a b. let e = same.insert_edge n s u v w r q t b a in (sym e.0, sym e.1);
  delete_edge = λ n s u v r w t q a b. let e = same.delete_edge n s u v w r q t b a in (sym e.0, sym e.1);
}

module _ (c d : Calls) (same : SameEdits c d) (n : ℕ) (s : Lent) (plan : List ℕ) where
  -- neither takes more records than stand before one that the other refuses
  past_c : (m k : ℕ) (q u : Lent) → RecordsTaken d n plan s m q → RecordGives d n plan m q k u → ¬ (k ≡ 0) → (j : ℕ) (t : Lent) → m < j
      → ¬ (RecordsTaken c n plan s j t)
  past_c m k q u a g z = not_more d c (turned c d same) n plan s m k q u a g z

  past_d : (m k : ℕ) (q u : Lent) → RecordsTaken c n plan s m q → RecordGives c n plan m q k u → ¬ (k ≡ 0) → (j : ℕ) (t : Lent) → m < j
      → ¬ (RecordsTaken d n plan s j t)
  past_d m k q u a g z = not_more c d same n plan s m k q u a g z

  module _ (r w : Answer) (t u : Lent) where
    pub read_plan_line_only : PlanRead c n s plan r t → PlanRead d n s plan w u → (r ≡ w) × (t ≡ u)
    read_plan_line_only (early f z p v e) (early f' z' p' v' e') =
        (answer_ext r w (first_only (before_records n s plan) r.number w.number f f') (p ∙ sym p') (v ∙ sym v'), e ∙ sym e')
    read_plan_line_only (early f z p v e) (taken f' z' p' v' a' x') = absurd (not_early n s plan r.number f z f')
    read_plan_line_only (early f z p v e) (stopped m' q' o' f' h' a' g' z' p' v' e') = absurd (not_early n s plan r.number f z f')
    read_plan_line_only (taken f z p v a x) (early f' z' p' v' e') = absurd (not_early n s plan w.number f' z' f)
    read_plan_line_only (stopped m q o f h a g z p v e) (early f' z' p' v' e') = absurd (not_early n s plan w.number f' z' f)
    read_plan_line_only (taken f z p v a x) (taken f' z' p' v' a' x') =
        let e = records_only c d same n plan s (length plan / 8) t u a a' in
        (answer_ext r w (z ∙ sym z') (p ∙ sym p') (v ∙ ap (ones n) e ∙ sym v'), e)
    read_plan_line_only (taken f z p v a x) (stopped m' q' o' f' h' a' g' z' p' v' e') =
        absurd (past_c m' w.number q' o' a' g' z' (length plan / 8) t h' a)
    read_plan_line_only (stopped m q o f h a g z p v e) (taken f' z' p' v' a' x') = absurd (past_d m r.number q o a g z (length plan / 8) u h a')
    read_plan_line_only (stopped m q o f h a g z p v e) (stopped m' q' o' f' h' a' g' z' p' v' e') =
        elim (ℕ_discrete m m') [
          | yes k ↦
              let x = records_only c d same n plan s m' q q' (rw k at a) a' in
              let y = subst (λ b. RecordGives d n plan m' b w.number o') (sym x) g' in
              (answer_ext r w (gives_only c d same n plan m' q r.number w.number o o' (rw k at g) y).0 (omega (arith, p, p', k)) (v ∙ sym v'), e ∙ sym e')
          | no k ↦ elim (dec_lt m m') [
            | yes l ↦ absurd (past_d m r.number q o a g z m' q' l a')
            | no l ↦ absurd (past_c m' w.number q' o' a' g' z' m q (omega (arith, l, k)) a)
          ]
        ]

-- ---- a plan written

-- a number below a sum falls within one of the numbers that are added
within_sum : (m : ℕ) (f : ℕ → ℕ) (k : ℕ) → k < sum m f → (i : ℕ) × (i < m) × (sum i f ≤ k) × (k < sum i f + f i)
unfolding sum
within_sum zero f k h = absurd (omega (arith, h))
within_sum (suc m) f k h =
    elim (dec_lt k (sum m f)) [
      | yes l ↦ let r = within_sum m f k l in (r.0, omega (arith, r.1), r.2, r.3)
      | no l ↦ (m, omega arith, omega (arith, l), h)
    ]

-- a byte stands in the 8 bytes of its record
byte_of : (b : List ℕ) (x : ℕ) → get_or (take 8 (drop (8 * (x / 8)) b)) (x % 8) 0 ≡ get_or b x 0
byte_of b x =
    let e : 8 * (x / 8) + x % 8 ≡ x = omega arith in
    get_or-take 8 (drop (8 * (x / 8)) b) (x % 8) 0 (omega arith)
    ∙ get_or-drop (8 * (x / 8)) b (x % 8) 0
    ∙ ap (λ (y : ℕ). get_or b y 0) e

-- so bytes are known by their first m records and by what stands after these
bytes_only : (m : ℕ) (p q : List ℕ) → length p ≡ length q → ((k : ℕ) → k < m → take 8 (drop (8 * k) p) ≡ take 8 (drop (8 * k) q))
    → ((x : ℕ) → 8 * m ≤ x → get_or p x 0 ≡ get_or q x 0) → p ≡ q
bytes_only m p q long same rest =
    ext_get_or 0 p q long (λ x h.
    elim (dec_lt x (8 * m)) [
      | yes l ↦ sym (byte_of p x) ∙ ap (λ (b : List ℕ). get_or b (x % 8) 0) (same (x / 8) (omega (arith, l))) ∙ byte_of q x
      | no l ↦ rest x (omega (arith, l))
    ])

module _ (n : ℕ) (s : Lent) where
  -- what holds of the number of edges before each edge, by from, then to, holds of every number below that of all edges
  by_edges : Valid n s → (P : ℕ → Type 0)
      → ((i j : ℕ) → i < n → j < n → edge s i j ≡ 1 → P (sum i (λ a. sum 64 (edge s a)) + sum j (edge s i))) → (k : ℕ) → k < ones n s → P k
  by_edges v P holds k h =
      let p = within_sum n (λ a. sum 64 (edge s a)) k h in
      let i = p.0 in
      let q = within_sum 64 (edge s i) (k - sum i (λ a. sum 64 (edge s a))) (omega (arith, p.2, p.3)) in
      let j = q.0 in
      let e : edge s i j ≡ 1 = omega (arith, edge_le s.words i j, q.2, q.3) in
      let hj : j < n = elim (dec_lt j n) [ yes l ↦ l | no l ↦ absurd (v.rows (i, p.1, (j, omega (arith, l), e))) ] in
      let number : sum i (λ a. sum 64 (edge s a)) + sum j (edge s i) ≡ k = omega (arith, p.2, p.3, q.2, q.3, edge_le s.words i j) in
      subst P number (holds i j p.1 hj e)

  -- what is accepted is valid
  accepted_line_valid : (l : Conditions) → First (every n s ((¬ (Valid n s)) gives 9 ∷ l)) 0 → Valid n s
  unfolding BadLength size
  accepted_line_valid l f = accepted_valid n s l f

  pub write_plan_line_only : (before : List ℕ) (r w : Answer) (after other : List ℕ) → SaidOfWritePlan n s before r after
      → SaidOfWritePlan n s before w other → (r ≡ w) × (after ≡ other)
  write_plan_line_only before r w after other a b =
      calls_only a.0 a.1 b.0 b.1
      (λ z x y.
      let valid = accepted_line_valid ((length before < 8 * ones n s) gives 10 ∷ []) (rw z at a.0.number) in
      bytes_only (ones n s) after other (x.0.0 ∙ sym y.0.0)
      (by_edges valid (λ m. take 8 (drop (8 * m) after) ≡ take 8 (drop (8 * m) other))
      (λ i j hi hj e. (x.1 i j hi hj e).2 ∙ sym (y.1 i j hi hj e).2))
      (λ m l. x.0.1 m l ∙ sym (y.0.1 m l)))
      (λ d x y. x ∙ sym y)
