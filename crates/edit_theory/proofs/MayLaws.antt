-- When one edge may be inserted into the model. Assumes nothing.
use mathlib.Core.Path.{◌≡◌, refl, subst}
use mathlib.Core.Logic.{◌⊎◌, inl, inr}
use mathlib.Core.List.{[], ◌∷◌}
use Prim.Native.Nat.{ℕ, ◌≤◌, ◌<◌}
use native.Mathlib.Nat.{lt_of_not-le}
use native.Mathlib.Omega.{arith}
use Rattle.graph.specs.Graph.{Cycle}
use Rattle.answer.specs.Table.{◌gives◌, First}
use Rattle.answer.specs.Answers.{answer}
use Rattle.answer.proofs.ByNumber.{first_not}
use Rattle.sheet_theory.specs.Conditions.{BadVertices}
use Rattle.edit_theory.specs.Edit.{one, insert_edge}
use Rattle.edit_theory.specs.Table.{SomeEdge, most_parallel}
use Rattle.edit_theory.specs.Book.{Model}
use Rattle.edit_theory.specs.Model.{effect, edge_count, model_conditions, MayInsert, Free}
use Rattle.edit_theory.proofs.NamedLaws.{some_one}

module _ (m : Model) (u v : ℕ) where
  -- an insertion of one edge, between two vertices and fewer than the most there, is refused by 8 or not at all
  pub insert_first : ¬ (BadVertices m.vertices) → u < m.vertices → v < m.vertices → ¬ (u ≡ v) → ¬ (most_parallel ≤ m.edge u v)
      → (k : ℕ) → First (Cycle m.vertices (effect m (insert_edge m.vertices u v)).edge gives 8 ∷ []) k
      → First (model_conditions m (insert_edge m.vertices u v)) k
  insert_first few hu hv apart new k f =
      let within : ¬ ((m.vertices ≤ u) ⊎ (m.vertices ≤ v)) = λ o. elim o [ inl l ↦ omega (arith, hu) | inr l ↦ omega (arith, hv) ] in
      let it : (P : ℕ → ℕ → Type 0) → SomeEdge m.vertices (one u v) P → P u v = λ P. (some_one m.vertices u v P hu hv).0 in
      inr (few, inr (λ d. d refl, inr (within, inr (λ o. apart (it (λ i j. i ≡ j) o), inr (λ o. new (it (λ i j. most_parallel ≤ m.edge i j) o), f)))))

  -- ---- when it may be inserted

  pub may_free : MayInsert m u v → Free m u v
  may_free h =
      let f : First (model_conditions m (insert_edge m.vertices u v)) 0 = subst (First (model_conditions m (insert_edge m.vertices u v))) h.accepted h.step.number in
      let not = first_not (model_conditions m (insert_edge m.vertices u v)) 0 f in
      let hu = lt_of_not-le (λ l. not 3 refl (inl l)) in
      let hv = lt_of_not-le (λ l. not 3 refl (inr l)) in
      record {
        from = hu;
        to = hv;
        apart = λ e. not 5 refl ((some_one m.vertices u v (λ i j. i ≡ j) hu hv).1 e);
        new = λ e. not 6 refl ((some_one m.vertices u v (λ i j. most_parallel ≤ m.edge i j) hu hv).1 e);
        acyclic = not 8 refl;
      }

  pub free_may : ¬ (BadVertices m.vertices) → Free m u v → MayInsert m u v
  free_may few h = record {
    answer = answer 0 0 (edge_count (effect m (insert_edge m.vertices u v)));
    after = effect m (insert_edge m.vertices u v);
    step = record {
      number = insert_first few h.from h.to h.apart h.new 0 (inr (h.acyclic, refl));
      place = refl;
      value = refl;
      after = refl;
    };
    accepted = refl;
  }
