-- On a sheet worked out afresh from a model, an edit answers as the model does and leaves the sheet worked out afresh from the model
-- afterwards. Assumes nothing.
use mathlib.Core.Path.{◌≡◌, refl, sym, ap, ◌∙◌}
use mathlib.Core.Logic.{inr}
use mathlib.Core.Bool.{Bool, true, false}
use mathlib.Core.List.{List, []}
use Prim.Native.Nat.{ℕ, zero, suc, ◌+◌, ◌*◌, ◌%◌, ◌^◌, ◌≤◌, ◌<◌}
use native.Mathlib.Nat.{mod-lt, mod-mod}
use native.Mathlib.Decide.{ℕ_discrete, dec_lt}
use native.Mathlib.Omega.{arith}
use lib.ListN.{length}
use lib.Pow.{pow_pos}
use Rattle.sums.specs.Modulo.{Congruent}
use Rattle.word.specs.Bit.{bit}
use Rattle.word.proofs.WrapLaws.{minus_lt, minus_add}
use Rattle.word.proofs.BitLaws.{bit_lt, bit_above_zero, below_iff}
use Rattle.graph.specs.Graph.{Cycle, Acyclic}
use Rattle.graph.specs.Count.{path_count}
use Rattle.graph.specs.Update.{inserted, updated, into, out, through, Closes}
use Rattle.graph.proofs.Walks.{cycle_cong, cycle_widen, reach_refl, cycle_of}
use Rattle.graph.proofs.Recurrence.{path_count_cong}
use Rattle.graph.proofs.Bound.{path_count_below}
use Rattle.graph.proofs.Editing.{cycle_iff_closes}
use Rattle.graph.proofs.Remainders.{insertion_mod, deletion_mod}
use Rattle.answer.specs.declared.Answer.{Answer}
use Rattle.answer.specs.Table.{First, Reflects}
use Rattle.answer.specs.Answers.{decided, answered}
use Rattle.sheet_theory.specs.Layout.{size, row_at, count_at, edge_at, set_bits}
use Rattle.sheet_theory.specs.Lent.{Lent, lent}
use Rattle.answer.proofs.TableLaws.{reflects_iff, reflects_not, reflects_eq, first_true_lem, first_only}
use Rattle.answer.proofs.ByNumber.{first_not}
use Rattle.answer.proofs.AnswerLaws.{answer_ext}
use Rattle.sheet_theory.proofs.StrayLaws.{rows_iff}
use Rattle.sheet_theory.proofs.LayoutLaws.{size_only}
use Rattle.edit_theory.specs.Edit.{Edges, at, Edit, vertex_of, predecessors_of, successors_of, named_at, marked, changed}
use Rattle.edit_theory.specs.Table.{most_parallel, clashes, effects}
use Rattle.edit_theory.specs.Outcome.{closes, edited_row, edited_by, edited_count, edited, edit_number, edit_words, edit_made, edit_tests, edit_answer, edit_after}
use Rattle.edit_theory.specs.Book.{Model}
use Rattle.edit_theory.specs.Model.{effect, model_grounds, model_conditions, Step, edge_count}
use Rattle.edit_theory.proofs.TestLaws.{closes_reflects, named_into}
use Rattle.edit_theory.proofs.NamedLaws.{named_number, named_below, marked_le, marked_inserts, marked_deletes}
use Rattle.edit_theory.proofs.EditedRow.{bit_edited, edited_lt}
use Rattle.edit_theory.proofs.ConditionLaws.{InOrder, Argued, table_agree, passed}
use Rattle.edit_theory.proofs.FreshLaws.{Modelled, modelled_edge, modelled_count, fresh_value, fresh_made}

-- ---- the words

-- no bit at n or above is set
edited_below : (inserts : Bool) (n : ℕ) (s : List ℕ) (v a b i : ℕ) → v < n → b < 2 ^ n → row_at s i < 2 ^ n → edited_row inserts s v a b i < 2 ^ n
unfolding edited_row
edited_below inserts n s v a b i hv hb hr =
    (below_iff n (edited_row inserts s v a b i)).1
    (λ j l. elim (dec_lt j 64) [
      | yes h ↦ bit_edited inserts s v a b i j h ∙ ap (λ t. marked inserts t (edge_at s i j)) (named_below v a b n i j hv hb l) ∙ bit_above_zero (row_at s i) n j hr l
      | no h ↦ bit_above_zero (edited_row inserts s v a b i) 64 j (edited_lt inserts s v a b i) (omega arith)
    ])

edited_small : (inserts : Bool) (c x y F T : ℕ) → edited_by inserts c x y F T < 2 ^ 64
unfolding edited_by
edited_small true c x y F T = mod-lt (c + (x * T + F * y + F * T)) (pow_pos 64)
edited_small false c x y F T = minus_lt (c + F * T) (x * T + F * y)

-- ---- an edit at v

-- what the counts show depends on the counts between vertices alone
closes_cong : (n : ℕ) (C D : ℕ → ℕ → ℕ) (v : ℕ) (α β : ℕ → ℕ) → v < n → ((i j : ℕ) → i < n → j < n → C i j ≡ D i j)
    → Closes n C v α β → Closes n D v α β
closes_cong n C D v α β hv h (into k hk p c) = into k hk p (rw (h v k hv hk) at c)
closes_cong n C D v α β hv h (out k hk p c) = out k hk p (rw (h k v hk hv) at c)
closes_cong n C D v α β hv h (through j i hj hi p q c) = through j i hj hi p q (rw (h i j hi hj) at c)

module _ (m : Model) (s : Lent) (h : Modelled m s) (v a b : ℕ) (ok : InOrder m.vertices v a b) where
  -- the edges afterwards
  abbrev after : Bool → ℕ → ℕ → ℕ
  after inserts i j = changed inserts (named_at v a b i j) (m.edge i j)

  abbrev words : Bool → List ℕ
  words inserts = edited inserts m.vertices s.words v a b

  abbrev counts : Bool → ℕ → ℕ → ℕ
  counts inserts = edited_count inserts m.vertices s.words v a b

  -- the edges that are inserted, from those before
  abbrev with : (ℕ → ℕ → ℕ) → ℕ → ℕ → ℕ
  with w = inserted w v (bit a) (bit b)

  -- the bits of the rows are the edges: a sheet with the right counts is worked out afresh
  kept : (inserts : Bool) → Acyclic m.vertices (after inserts)
      → ((i j : ℕ) → i < m.vertices → j < m.vertices → marked inserts (named_at v a b i j) (m.edge i j) ≡ after inserts i j)
      → ((i j : ℕ) → i < m.vertices → j < m.vertices → Congruent (2 ^ 64) (counts inserts i j) (path_count m.vertices (after inserts) i j))
      → Modelled (record { vertices = m.vertices; edge = after inserts }) (lent (words inserts))
  unfolding edited edited_count
  kept inserts acyclic is c = record {
    low = h.low;
    high = h.high;
    acyclic = acyclic;
    fresh = fresh_made (record { vertices = m.vertices; edge = after inserts })
        (edited_row inserts s.words v a b) (counts inserts) s h.fresh.long acyclic
        (path_count_below m.vertices (after inserts) acyclic h.high
        (λ i j hi hj. omega (arith, is i j hi hj, marked_le inserts (named_at v a b i j) (m.edge i j) (modelled_edge h i j hi hj))))
        (λ i hi. edited_below inserts m.vertices s.words v a b i ok.vertex ok.successors
        ((rows_iff m.vertices s.words).0 h.fresh.rows i hi))
        (λ i j hi hj.
        bit_edited inserts s.words v a b i j (omega (arith, h.high)) ∙ ap (marked inserts (named_at v a b i j)) (h.fresh.bits i j hi hj) ∙ is i j hi hj)
        c
        (λ i j. edited_small inserts _ _ _ _ _);
  }

  -- ---- insertion: no edge to insert is from a vertex to itself, and none is there

  module _ (free : First (clashes true m.vertices most_parallel (at v a b) m []) 0) where
    inserted_free : bit a v ≡ 0
    inserted_free = let d : bit a v ≡ 1 → ⊥ = λ o. first_not (clashes true m.vertices most_parallel (at v a b) m []) 0 free 5 refl (v, ok.vertex, v, ok.vertex, named_into v a b v o, refl) in omega (arith, bit_lt a v)

    absent : (i j : ℕ) → i < m.vertices → j < m.vertices → named_at v a b i j ≡ true → m.edge i j ≡ 0
    absent i j hi hj q = let d : 1 ≤ m.edge i j → ⊥ = λ l. first_not (clashes true m.vertices most_parallel (at v a b) m []) 0 free 6 refl (i, hi, j, hj, q, l) in omega arith

    inserted_is : (i j : ℕ) → i < m.vertices → j < m.vertices → after true i j ≡ with m.edge i j
    unfolding inserted
    inserted_is i j hi hj = omega (arith, named_number v a b inserted_free i j)

    -- CYCLES: the counts show one exactly if there is one among the edges together with those to insert
    cycle_reflects : Reflects (closes m.vertices s.words v a b) (Cycle m.vertices (after true))
    cycle_reflects =
        let n = m.vertices in
        let w = m.edge in
        let α = bit a in
        let β = bit b in
        let iff = cycle_iff_closes n w v α β h.acyclic ok.vertex in
        reflects_iff
        (λ c.
        cycle_cong n (with w) (after true) (λ i j hi hj. sym (inserted_is i j hi hj))
        (iff.1 (closes_cong n (count_at n s.words) (path_count n w) v α β ok.vertex (modelled_count h) c)))
        (λ c.
        closes_cong n (path_count n w) (count_at n s.words) v α β ok.vertex (λ i j hi hj. sym (modelled_count h i j hi hj))
        (iff.0 (cycle_cong n (after true) (with w) inserted_is c)))
        (closes_reflects n s.words v a b)

    insert_modelled : Acyclic m.vertices (after true) → Modelled (record { vertices = m.vertices; edge = after true }) (lent (words true))
    unfolding edited_count edited_by updated
    insert_modelled acyclic =
        let n = m.vertices in
        let w = m.edge in
        kept true acyclic (λ i j hi hj. marked_inserts (named_at v a b i j) (m.edge i j) (absent i j hi hj))
        (λ i j hi hj.
        mod-mod _ (2 ^ 64)
        ∙ insertion_mod n (2 ^ 64) w v (bit a) (bit b) ok.vertex (λ c. acyclic (cycle_cong n (with w) (after true) (λ x y hx hy. sym (inserted_is x y hx hy)) c))
        (count_at n s.words) (λ x y hx hy. ap (λ z. z % 2 ^ 64) (modelled_count h x y hx hy)) i j hi hj
        ∙ ap (λ z. z % 2 ^ 64) (path_count_cong n (with w) (after true) (λ x y hx hy. sym (inserted_is x y hx hy)) i j hi))

  -- ---- deletion: every edge to delete is there

  module _ (free : First (clashes false m.vertices most_parallel (at v a b) m []) 0) where
    there : (i j : ℕ) → i < m.vertices → j < m.vertices → named_at v a b i j ≡ true → m.edge i j ≡ 1
    there i j hi hj q = let d : m.edge i j ≡ 0 → ⊥ = λ e. first_not (clashes false m.vertices most_parallel (at v a b) m []) 0 free 7 refl (i, hi, j, hj, q, e) in omega (arith, modelled_edge h i j hi hj)

    deleted_free : bit a v ≡ 0
    deleted_free =
        let d : bit a v ≡ 1 → ⊥
        = λ o.
        let e : m.edge v v ≡ 1 = there v v ok.vertex ok.vertex (named_into v a b v o) in
        h.acyclic (cycle_of m.vertices m.edge v v ok.vertex ok.vertex (omega (arith, e)) (reach_refl m.vertices m.edge v)) in
        omega (arith, bit_lt a v)

    deleted_is : (i j : ℕ) → i < m.vertices → j < m.vertices → m.edge i j ≡ with (after false) i j
    unfolding inserted
    deleted_is i j hi hj =
        omega (arith, (marked_deletes (named_at v a b i j) (m.edge i j) (there i j hi hj)).1, named_number v a b deleted_free i j)

    deleted_acyclic : Acyclic m.vertices (after false)
    deleted_acyclic c = h.acyclic (cycle_widen m.vertices (after false) m.edge (λ i j hi hj p. omega (arith, p)) c)

    delete_modelled : Modelled (record { vertices = m.vertices; edge = after false }) (lent (words false))
    unfolding edited_count edited_by
    delete_modelled =
        let n = m.vertices in
        kept false deleted_acyclic (λ i j hi hj. (marked_deletes (named_at v a b i j) (m.edge i j) (there i j hi hj)).0)
        (λ i j hi hj.
        deletion_mod n (2 ^ 64) (after false) v (bit a) (bit b) ok.vertex
        (λ c. h.acyclic (cycle_cong n (with (after false)) m.edge (λ x y hx hy. sym (deleted_is x y hx hy)) c)) (count_at n s.words)
        (λ x y hx hy. ap (λ z. z % 2 ^ 64) (modelled_count h x y hx hy ∙ path_count_cong n m.edge (with (after false)) deleted_is x y hx)) i j hi hj
        (counts false i j) (minus_add _ _))

-- ---- one edit

-- an edit of the edges g that no condition refuses leaves the sheet of the edges afterwards
effect_modelled : (m : Model) (s : Lent) (h : Modelled m s) (g : Edges) → Argued m.vertices g → (inserts : Bool) →
    let e : Edit = record { inserts = inserts; vertices = m.vertices; edges = g } in
    First (effects inserts m.vertices most_parallel g m (model_grounds m e)) 0 → Modelled (effect m e) (edit_made e s)
effect_modelled m s h g ok true f =
    let not = first_not (effects true m.vertices most_parallel g m (model_grounds m (record { inserts = true; vertices = m.vertices; edges = g }))) 0 f in
    insert_modelled m s h (vertex_of g) (predecessors_of g) (successors_of g) ok (inr (not 5 refl, inr (not 6 refl, refl))) (not 8 refl)
effect_modelled m s h g ok false f = delete_modelled m s h (vertex_of g) (predecessors_of g) (successors_of g) ok f

module _ (m : Model) (s : Lent) (h : Modelled m s) (e : Edit) where
  same_vertices : ¬ (¬ (e.vertices ≡ m.vertices)) → e.vertices ≡ m.vertices
  same_vertices d = elim (ℕ_discrete e.vertices m.vertices) [ yes q ↦ q | no q ↦ absurd (d q) ]

  -- THE TABLE: the number is that of the first of the model's conditions that holds
  pub number_first : First (model_conditions m e) (edit_number e s)
  number_first =
      first_true_lem (model_conditions m e) (edit_tests e s)
      (table_agree e s m (model_grounds m e)
      (reflects_iff (λ d q. d (h.fresh.long ∙ ap size (sym q))) (λ d q. d (size_only e.vertices m.vertices (sym q ∙ h.fresh.long)))
      (reflects_not (reflects_eq (length s.words) (size e.vertices))))
      (λ d i j hi hj. let q = same_vertices d in h.fresh.bits i j (omega (arith, q)) (omega (arith, q)))
      (λ d a i p.
      let q = same_vertices d in
      rw (q, i) (cycle_reflects m s h (vertex_of e.edges) (predecessors_of e.edges) (successors_of e.edges) (rw q at a) (rw q at p))))

  -- an edit that is not refused says the model's own number of vertices, and leaves the sheet of the model afterwards
  pub accepted_modelled : First (model_conditions m e) 0 → (e.vertices ≡ m.vertices) × Modelled (effect m e) (edit_made e s)
  accepted_modelled f =
      let p = passed e s m (model_grounds m e) f in
      let q = same_vertices p.same in
      (q, rw q (effect_modelled m s h e.edges (rw q at p.argued) e.inserts (rw q at p.effects)))

  -- ONE EDIT: the model, given e, answers what the edit answers, and the sheet is again the model's
  pub edit_step : (m' : Model) × Step m e (edit_answer e s) m' × Modelled m' (edit_after e s) × (m'.vertices ≡ m.vertices)
  edit_step = go (edit_number e s) number_first
    where
      go : (k : ℕ) → First (model_conditions m e) k
          → (m' : Model) × Step m e (answered k (set_bits e.vertices (edit_words e s))) m' × Modelled m' (decided k (edit_made e s) s)
          × (m'.vertices ≡ m.vertices)
      go zero f =
          let a = accepted_modelled f in
          let x : set_bits e.vertices (edit_words e s) ≡ edge_count (effect m e) = ap (λ n. set_bits n (edit_words e s)) a.0 ∙ fresh_value a.1.high a.1.fresh in
          (effect m e, record { number = f; place = refl; value = x; after = refl }, a.1, refl)
      go (suc k) f = (m, record { number = f; place = refl; value = refl; after = refl }, h, refl)

-- a step is determined
pub step_only : {m m₁ m₂ : Model} {e : Edit} {r r' : Answer} → Step m e r m₁ → Step m e r' m₂ → (r ≡ r') × (m₁ ≡ m₂)
step_only {m} {m₁} {m₂} {e} {r} {r'} p q =
    let n : r.number ≡ r'.number = first_only (model_conditions m e) r.number r'.number p.number q.number in (
      answer_ext r r' n (p.place ∙ sym q.place) (p.value ∙ ap (λ k. decided k (edge_count (effect m e)) 0) n ∙ sym q.value),
      p.after ∙ ap (λ k. decided k (effect m e) m) n ∙ sym q.after,
    )
