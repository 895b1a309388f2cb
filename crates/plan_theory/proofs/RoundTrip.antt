-- THE ROUND TRIP: what is written of a valid sheet is read into an empty one as that very sheet, word for word. Assumes nothing.
use mathlib.Core.Path.{◌≡◌, refl, ap, ap₂, subst, ◌∙◌}
use mathlib.Core.Logic.{◌⊎◌, inl, inr, ◌↔◌}
use mathlib.Core.Bool.{true}
use mathlib.Core.List.{List, [], ◌∷◌}
use Prim.Native.Nat.{ℕ, ◌≤◌, ◌<◌}
use native.Mathlib.Decide.{ℕ_discrete}
use native.Mathlib.Omega.{arith}
use lib.ListN.{length, take}
use Rattle.std.proofs.Common.{Ok, Err}
use Rattle.graph.specs.Graph.{◌is_in◌, Distinct, Edge, Acyclic}
use Rattle.graph.proofs.Walks.{cycle_widen, cycle_of, reach_refl}
use Rattle.record.specs.declared.Record.TheVariants.{Insert, Delete}
use Rattle.record.specs.Record.{Reading}
use Rattle.answer.specs.declared.Answer.{Answer}
use Rattle.answer.specs.Table.{◌gives◌, First}
use Rattle.answer.specs.Answers.{answer}
use Rattle.sheet_theory.specs.Layout.{edge_at, set_bits}
use Rattle.sheet_theory.specs.Lent.{Lent, mult_at, empty_lent}
use Rattle.sheet_theory.specs.Valid.{Valid}
use Rattle.sheet_theory.proofs.ValidLaws.{edge_le, accepted_valid, valid_passed}
use Rattle.sheet_theory.proofs.Meaning.{empty_edge, empty_valid}
use Rattle.edit_theory.specs.Book.{Model, opened}
use Rattle.edit_theory.specs.Model.{Fresh}
use Rattle.edit_theory.proofs.FreshLaws.{valid_modelled, fresh_only}
use Rattle.edit_theory.proofs.MayLaws.{insert_first}
use Rattle.plan_theory.specs.Records.{records}
use Rattle.plan_theory.specs.Taken.{RecordNumber, Taken}
use Rattle.plan_theory.specs.PlanOf.{edge_records, plan_of}
use Rattle.plan_theory.specs.Calls.{BadPlan, read_conditions, ReadPlan, ShortBuffer, WritePlan}
use Rattle.plan_theory.proofs.Meaning.{read_accepted, read_accepted_iff, write_taken}
use Rattle.plan_theory.proofs.EffectLaws.{with, with_cases}
use Rattle.plan_theory.proofs.OrderLaws.{edge_records_distinct}
use Rattle.plan_theory.proofs.AppliedLaws.{taken_only}
use Rattle.plan_theory.proofs.LengthLaws.{length_good}
use Rattle.plan_theory.proofs.PlanOfLaws.{edge_records_iff, edge_records_of, insert_only, plan_records, plan_short}

-- ---- one edge more

-- the edges e, and the one from u to v
with_iff : (e : ℕ → ℕ → ℕ) (u v i j : ℕ) → (0 < with true e u v i j) ↔ (((i ≡ u) × (j ≡ v)) ⊎ (0 < e i j))
with_iff e u v i j =
    elim (with_cases true e u v i j) [
      | inl c ↦ (λ q. inl (c.0, c.1), λ q. omega (arith, c.2))
      | inr c ↦ (λ q. inr (omega (arith, c.1)), λ q. elim q [ inl d ↦ absurd (c.0 d) | inr d ↦ omega (arith, c.1) ])
    ]

-- ---- insertions that are all accepted

-- the model of n vertices and the edges e
abbrev model : ℕ → (ℕ → ℕ → ℕ) → Model
model n e = record { vertices = n; edge = e }

-- the model of the edges e takes l, and has those that l inserts besides
record Gained (n : ℕ) (e : ℕ → ℕ → ℕ) (l : List Reading) : Type 0 where
  pub edge : ℕ → ℕ → ℕ
  pub taken : Taken (model n e) l (model n edge)
  pub edges : (i j : ℕ) → (0 < edge i j) ↔ ((0 < e i j) ⊎ (Ok (Insert i j) is_in l))

gained_none : (n : ℕ) (e : ℕ → ℕ → ℕ) → Gained n e []
unfolding Taken
gained_none n e = record { edge = e; taken = refl; edges = λ i j. (λ h. inl h, λ h. elim h [ inl a ↦ a | inr a ↦ absurd a ]) }

gained_more : (n : ℕ) (e : ℕ → ℕ → ℕ) (u v : ℕ) (l : List Reading) → RecordNumber (model n e) (Ok (Insert u v)) 0 → Gained n (with true e u v) l
    → Gained n e (Ok (Insert u v) ∷ l)
unfolding Taken
gained_more n e u v l f g = record {
  edge = g.edge;
  taken = (f, g.taken);
  edges = λ i j.
      let p = g.edges i j in
      let c = with_iff e u v i j in (
        λ h. elim (p.0 h) [
          | inl a ↦ elim (c.0 a) [ inl b ↦ inr (inl (ap₂ (λ (x y : ℕ). Ok (Insert x y)) b.0 b.1)) | inr b ↦ inl b ]
          | inr a ↦ inr (inr a)
        ],
        λ h. elim h [
          | inl a ↦ p.1 (inl (c.1 (inr a)))
          | inr a ↦ elim a [ inl b ↦ p.1 (inl (c.1 (inl (insert_only i j u v b)))) | inr b ↦ p.1 (inr b) ]
        ],
      );
}

module _ (n : ℕ) (w : ℕ → ℕ → ℕ) where
  -- every edge of e is one of w
  abbrev Within : (ℕ → ℕ → ℕ) → Type 0
  Within e = (i j : ℕ) → i < n → j < n → Edge n e i j → Edge n w i j

  -- x inserts an edge of w that is not one of e
  abbrev New : (ℕ → ℕ → ℕ) → Reading → Type 0
  New e (Ok (Insert u v)) = (u < n) × (v < n) × Edge n w u v × (e u v ≡ 0)
  New e (Ok (Delete u v)) = ⊥
  New e (Err x) = ⊥

  with_within : (e : ℕ → ℕ → ℕ) (u v : ℕ) → Edge n w u v → Within e → Within (with true e u v)
  with_within e u v h within i j hi hj p =
      elim (with_cases true e u v i j) [ inl c ↦ rw (c.0, c.1) h | inr c ↦ within i j hi hj (rw c.1 at p) ]

  with_new : (e : ℕ → ℕ → ℕ) (u v : ℕ) (x : Reading) → ¬ (x ≡ Ok (Insert u v)) → New e x → New (with true e u v) x
  with_new e u v (Ok (Insert i j)) d (hi, hj, h, z) =
      (hi, hj, h, elim (with_cases true e u v i j) [ inl c ↦ absurd (d (ap₂ (λ (x y : ℕ). Ok (Insert x y)) c.0 c.1)) | inr c ↦ c.1 ∙ z ])
  with_new e u v (Ok (Delete i j)) d h = h
  with_new e u v (Err x) d h = h

  module _ (low : 1 ≤ n) (high : n ≤ 64) (acyclic : Acyclic n w) where
    -- inserting one is accepted: a cycle would be one of w
    new_passes : (e : ℕ → ℕ → ℕ) (u v : ℕ) → Within e → New e (Ok (Insert u v)) → RecordNumber (model n e) (Ok (Insert u v)) 0
    new_passes e u v within (hu, hv, h, z) =
        insert_first (model n e) u v (λ c. elim c [ inl l ↦ omega arith | inr l ↦ omega arith ]) hu hv
        (λ q. acyclic (cycle_of n w u u hu hu (rw (← q) at h) (reach_refl n w u))) (λ q. omega (arith, z, q)) 0
        (inr (λ c. acyclic (cycle_widen n (with true e u v) w (with_within e u v h within) c), refl))

    -- records that insert edges of w, each once and none of them there, are all accepted
    inserts_taken : (l : List Reading) (e : ℕ → ℕ → ℕ) → Distinct l → ((x : Reading) → x is_in l → New e x) → Within e → Gained n e l
    inserts_taken [] e d new within = gained_none n e
    inserts_taken (Ok (Insert u v) ∷ l) e d new within =
        let h = new (Ok (Insert u v)) (inl refl) in
        gained_more n e u v l (new_passes e u v within h)
        (inserts_taken l (with true e u v) d.1
        (λ x q. with_new e u v x (λ c. d.0 (rw c at q)) (new x (inr q))) (with_within e u v h.2 within))
    inserts_taken (Ok (Delete u v) ∷ l) e d new within = absurd (new (Ok (Delete u v)) (inl refl))
    inserts_taken (Err x ∷ l) e d new within = absurd (new (Err x) (inl refl))

-- ---- the plan of a valid sheet, read into the empty one

module _ (n : ℕ) (s : Lent) (valid : Valid n s) where
  -- the edges of the empty sheet: none
  abbrev none : ℕ → ℕ → ℕ
  none = mult_at n (empty_lent n)

  -- each record of the plan inserts an edge of s that is not there yet
  plan_new : (x : Reading) → x is_in edge_records n s → New n (edge_at s.words) none x
  plan_new x m =
      let r = edge_records_of n s x m in
      rw r.4 (r.1, r.3, omega (arith, r.5), empty_edge n r.0 r.2 r.1 r.3)

  plan_gained : Gained n none (edge_records n s)
  plan_gained =
      inserts_taken n (edge_at s.words) valid.shape.low valid.shape.high valid.acyclic (edge_records n s) none (edge_records_distinct n s) plan_new
      (λ i j hi hj p. absurd (omega (arith, p, empty_edge n i j hi hj)))

  plan_taken : Taken (opened n (empty_lent n)) (records (plan_of n s)) (model n plan_gained.edge)
  plan_taken = rw (plan_records n s valid.shape.high) plan_gained.taken

  -- so it comes to the edges of s
  gained_edge : (i j : ℕ) → i < n → j < n → plan_gained.edge i j ≤ 1 → plan_gained.edge i j ≡ edge_at s.words i j
  gained_edge i j hi hj one =
      let p = plan_gained.edges i j in
      let q = edge_records_iff n s i j hi hj in
      elim (ℕ_discrete (edge_at s.words i j) 1) [
        | yes e ↦ omega (arith, p.1 (inr (q.1 e)))
        | no d ↦
            let c : 0 < plan_gained.edge i j → ⊥ = λ h. elim (p.0 h) [ inl a ↦ omega (arith, a, empty_edge n i j hi hj) | inr a ↦ d (q.0 a) ] in
            omega (arith, edge_le s.words i j)
      ]

  plan_passed : First (read_conditions n (empty_lent n) (plan_of n s)) 0
  plan_passed =
      let q = plan_short n s valid in
      valid_passed n (empty_lent n) (empty_valid n valid.shape.low valid.shape.high) (BadPlan (plan_of n s) gives 13 ∷ []) 0
      (length_good (plan_of n s) q.1 q.0)

  -- THE THEOREM: reading what was written of a valid sheet into the empty sheet of as many vertices gives that sheet, word for word
  pub round_trip : (r : Answer) (t : Lent) → ReadPlan n (empty_lent n) (plan_of n s) r t → (r ≡ answer 0 0 (set_bits n s.words)) × (t ≡ s)
  round_trip r t h =
      let z = (read_accepted_iff n (empty_lent n) (plan_of n s) r t h plan_passed).1 (_, plan_taken) in
      let a = read_accepted n (empty_lent n) (plan_of n s) r t h z in
      let f : Fresh (model n plan_gained.edge) t = subst (λ m. Fresh m t) (taken_only (records (plan_of n s)) _ _ _ a.taken plan_taken) a.fresh in
      let e : t ≡ s
      = fresh_only n plan_gained.edge (edge_at s.words) t s
      (λ i j hi hj. gained_edge i j hi hj (omega (arith, f.bits i j hi hj, edge_le t.words i j))) f (valid_modelled valid).fresh in
      (a.answered ∙ ap (λ (x : Lent). answer 0 0 (set_bits n x.words)) e, e)

-- and so by the two calls: what write_plan has written, read_plan reads into the empty sheet
pub round_trip_buffer : (n : ℕ) (s : Lent) (p : List ℕ) (r : Answer) (q : List ℕ) → WritePlan n s p r q → r.number ≡ 0
    → (r' : Answer) (t : Lent) → ReadPlan n (empty_lent n) (take r.value q) r' t → (r' ≡ answer 0 0 (set_bits n s.words)) × (t ≡ s)
round_trip_buffer n s p r q h z r' t g =
    let v = accepted_valid n s (ShortBuffer n s (length p) gives 10 ∷ []) (rw z at h.number) in
    round_trip n s v r' t (rw (write_taken n s p r q h z) at g)
