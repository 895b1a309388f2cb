-- WHAT ONE EDIT DOES, in terms of the model, of paths and of cycles. Assumes nothing.
use mathlib.Core.Path.{◌≡◌, refl, sym, ap, subst, ◌∙◌}
use mathlib.Core.Logic.{inl, inr, ◌↔◌}
use mathlib.Core.Bool.{Bool, true, false}
use mathlib.Core.List.{[]}
use Prim.Native.Nat.{ℕ, ◌≤◌, ◌<◌}
use native.Mathlib.Omega.{arith}
use Rattle.graph.specs.Graph.{Cycle}
use Rattle.graph.proofs.Walks.{paths_cong}
use Rattle.graph.proofs.Using.{paths_using}
use Rattle.answer.specs.declared.Answer.{Answer}
use Rattle.answer.specs.Table.{First}
use Rattle.sheet_theory.specs.Lent.{Lent, mult_at}
use Rattle.sheet_theory.specs.Conditions.{BadVertices}
use Rattle.sheet_theory.specs.Valid.{Valid}
use Rattle.answer.proofs.TableLaws.{first_rest, first_last, first_accepts}
use Rattle.answer.proofs.ByNumber.{first_not}
use Rattle.sheet_theory.proofs.ValidLaws.{edge_le}
use Rattle.edit_theory.specs.Edit.{Edges, Edit, insert_edge, named, changed}
use Rattle.edit_theory.specs.Table.{SomeEdge, argued, most_parallel, Grounds, effects}
use Rattle.edit_theory.specs.Outcome.{edit_answer, edit_after}
use Rattle.edit_theory.specs.Book.{Model, opened}
use Rattle.edit_theory.specs.Model.{effect, model_grounds, model_conditions, Step, MayInsert, Fresh}
use Rattle.edit_theory.specs.Change.{Changed}
use Rattle.edit_theory.proofs.FreshLaws.{modelled_valid, valid_modelled}
use Rattle.edit_theory.proofs.ConditionLaws.{argued_iff, passed}
use Rattle.edit_theory.proofs.StepLaws.{number_first, accepted_modelled, edit_step, step_only}

module _ (n : ℕ) (s : Lent) (valid : Valid n s) where
  -- THE MODEL: on a valid sheet the answer is that of the model's step, and the sheet afterwards is the one worked out afresh from the
  -- model afterwards, and valid
  pub edit_exact : (e : Edit) → (m : Model) × Step (opened n s) e (edit_answer e s) m × Fresh m (edit_after e s) × Valid n (edit_after e s)
  edit_exact e =
      let r = edit_step (opened n s) s (valid_modelled valid) e in
      (r.0, r.1, r.2.fresh, subst (λ x. Valid x (edit_after e s)) r.3 (modelled_valid r.2))

  -- once the arguments are in order, the number is that of the first of 5, 6 and 8 that holds of an insertion, of 7 of a deletion; a cycle
  -- is looked for among the edges and all those to insert together
  pub edit_effects : (inserts : Bool) (g : Edges) → First (argued n g []) 0 →
      let e : Edit = record { inserts = inserts; vertices = n; edges = g } in
      First (effects inserts n most_parallel g (opened n s) (model_grounds (opened n s) e)) (edit_answer e s).number
  edit_effects inserts g ok =
      let f = number_first (opened n s) s (valid_modelled valid) (record { inserts = inserts; vertices = n; edges = g }) in
      let few : ¬ (BadVertices n) = λ c. elim c [ inl l ↦ omega (arith, valid.shape.low) | inr l ↦ omega (arith, valid.shape.high) ] in
      (argued_iff n g _ _ ok).0 (first_rest (λ d. d refl) (first_rest few f))

  -- CYCLES: once the earlier conditions do not hold, an insertion is refused by 8 exactly if there is a cycle among the edges and all those
  -- to insert together, and else it is accepted
  pub edit_cycle_iff : (g : Edges) → First (argued n g []) 0 → ¬ (SomeEdge n g (λ i j. i ≡ j)) → ¬ (SomeEdge n g (λ i j. most_parallel ≤ mult_at n s i j)) →
      let e : Edit = record { inserts = true; vertices = n; edges = g } in
      let Closed : Type 0 = Cycle n (effect (opened n s) e).edge in
      (((edit_answer e s).number ≡ 8) ↔ Closed) × (((edit_answer e s).number ≡ 0) ↔ (¬ Closed))
  edit_cycle_iff g ok noLoop new =
      let f = first_rest new (first_rest noLoop (edit_effects true g ok)) in (first_last f, first_accepts f)

  -- an edge may be inserted by the model exactly if inserting it on the sheet is accepted
  pub may_insert_iff : (u v : ℕ) → MayInsert (opened n s) u v ↔ ((edit_answer (insert_edge n u v) s).number ≡ 0)
  may_insert_iff u v =
      let r = edit_exact (insert_edge n u v) in (
        λ h. ap (λ (x : Answer). x.number) (step_only r.1 h.step).0 ∙ h.accepted,
        λ z. record { answer = edit_answer (insert_edge n u v) s; after = r.0; step = r.1; accepted = z },
      )

-- ---- the paths that use one of the edges

module _ (n : ℕ) (s : Lent) (valid : Valid n s) (g : Edges) (t : Lent) (i j : ℕ) (hi : i < n) (hj : j < n) where
  -- the edges afterwards
  abbrev after : Bool → ℕ → ℕ → ℕ
  after inserts x y = changed inserts (named g x y) (mult_at n s x y)

  counts_change : (inserts : Bool) (grounds : Grounds) → First (effects inserts n most_parallel g (opened n s) grounds) 0
      → Fresh (record { vertices = n; edge = after inserts }) t → Changed inserts n s g t i j
  counts_change true grounds f fresh =
      paths_using n (mult_at n s) (mult_at n t) (named g)
      (λ x y hx hy q. let d : 1 ≤ mult_at n s x y → ⊥ = λ l. first_not (effects true n most_parallel g (opened n s) grounds) 0 f 6 refl (x, hx, y, hy, q, l) in omega arith)
      (λ x y hx hy q. omega (arith, fresh.bits x y hx hy ∙ ap (λ b. changed true b (mult_at n s x y)) q))
      i j _ _ (valid.counts i j hi hj)
      (paths_cong n (after true) (mult_at n t) (λ x y hx hy. sym (fresh.bits x y hx hy)) i j _ (fresh.counts i j hi hj))
  counts_change false grounds f fresh =
      paths_using n (after false) (mult_at n s) (named g)
      (λ x y hx hy q. ap (λ b. changed false b (mult_at n s x y)) q ∙ omega (arith, edge_le s.words x y))
      (λ x y hx hy q. ap (λ b. changed false b (mult_at n s x y)) q ∙ omega arith)
      i j _ _ (fresh.counts i j hi hj) (valid.counts i j hi hj)

-- RISE AND FALL: on a valid sheet an accepted insertion raises each count by the number of paths afterwards that use an inserted edge, and
-- an accepted deletion lowers it by the number of paths before that use a deleted edge
pub edit_changes : (n : ℕ) (s : Lent) → Valid n s → (e : Edit) → (edit_answer e s).number ≡ 0
    → (i j : ℕ) → i < n → j < n → Changed e.inserts n s e.edges (edit_after e s) i j
edit_changes n s valid e q i j hi hj =
    let m = opened n s in
    let f : First (model_conditions m e) 0 = rw q at (number_first m s (valid_modelled valid) e) in
    let a = accepted_modelled m s (valid_modelled valid) e f in
    let p = passed e s m (model_grounds m e) f in
    counts_change n s valid e.edges (edit_after e s) i j hi hj e.inserts _ (rw a.0 at p.effects) (rw q a.1.fresh)
