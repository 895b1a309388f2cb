-- The tests of an edit find the first of the table's conditions that holds, whatever stands for the length, the edges and the cycle, if
-- each test decides its condition once those before it do not hold; and what is known where none holds. Assumes nothing.
use mathlib.Core.Path.{◌≡◌, refl}
use mathlib.Core.Logic.{◌⊎◌, inl, inr, ◌↔◌}
use mathlib.Core.Bool.{Bool, true, false}
use mathlib.Core.List.{[]}
use Prim.Native.Nat.{ℕ, ◌^◌, ◌≤◌, ◌<◌}
use native.Mathlib.Nat.{lt_of_not-le}
use lib.Dec.{leb, eqb}
use lib.Pow.{pow-lt, pow_pos}
use Rattle.answer.specs.Table.{Conditions, First, Tests, Reflects}
use Rattle.sheet_theory.specs.Lent.{Lent, mult_at}
use Rattle.sheet_theory.specs.Conditions.{BadVertices, StrayBit, length_test}
use Rattle.answer.proofs.TableLaws.{Agree, reflects_iff, reflects_or, reflects_lt, reflects_le, reflects_eq, first_past, first_rest, first_more}
use Rattle.answer.proofs.ByNumber.{first_not}
use Rattle.sheet_theory.proofs.StrayLaws.{stray_iff, stray_not}
use Rattle.edit_theory.specs.Edit.{Edges, one, at, Edit, vertex_of, predecessors_of, successors_of}
use Rattle.edit_theory.specs.Book.{Model, opened}
use Rattle.edit_theory.specs.Table.{argued, most_parallel, clashes, Grounds, ending, effects, table}
use Rattle.edit_theory.specs.Outcome.{argued_tests, clash_tests, ending_tests, closes, edit_tests}
use Rattle.edit_theory.proofs.TestLaws.{some_edge_reflects}

reflects_stray : (n x : ℕ) → Reflects (leb (2 ^ n) x) (StrayBit n x)
reflects_stray n x = reflects_iff (stray_iff n x).1 (stray_iff n x).0 (reflects_le (2 ^ n) x)

-- ---- the arguments

-- the vertex v and the masks a and b are in order
pub record InOrder (n v a b : ℕ) : Type 0 where
  pub vertex : v < n
  pub predecessors : a < 2 ^ n
  pub successors : b < 2 ^ n

-- and so those of the edges g
abbrev pub Argued : ℕ → Edges → Type 0
Argued n g = InOrder n (vertex_of g) (predecessors_of g) (successors_of g)

argued_one : (n u v : ℕ) → ¬ ((n ≤ u) ⊎ (n ≤ v)) → Argued n (one u v)
argued_one n u v d = record { vertex = lt_of_not-le (λ l. d (inl l)); predecessors = pow_pos n; successors = pow-lt (lt_of_not-le (λ l. d (inr l))) }

argued_at : (n v a b : ℕ) → ¬ (n ≤ v) → ¬ (StrayBit n a ⊎ StrayBit n b) → Argued n (at v a b)
argued_at n v a b d c = record { vertex = lt_of_not-le d; predecessors = stray_not n a (λ l. c (inl l)); successors = stray_not n b (λ l. c (inr l)) }

pub argued_agree : (n : ℕ) (g : Edges) (cs : Conditions) (ts : Tests) → (Argued n g → Agree cs ts) → Agree (argued n g cs) (argued_tests n g ts)
argued_agree n (one u v) cs ts h = (reflects_or (reflects_le n u) (reflects_le n v), refl, λ d. h (argued_one n u v d))
argued_agree n (at v a b) cs ts h = (
  reflects_le n v,
  refl,
  λ d. (reflects_or (reflects_stray n a) (reflects_stray n b), refl, λ c. h (argued_at n v a b d c)),
)

pub argued_refused : (n : ℕ) (g : Edges) (cs : Conditions) (k : ℕ) → First (argued n g []) k → (k ≡ 0 → ⊥) → First (argued n g cs) k
argued_refused n (one u v) cs k f d = first_more (argued n (one u v) []) cs k f d
argued_refused n (at v a b) cs k f d = first_more (argued n (at v a b) []) cs k f d

-- where the arguments are in order, the conditions after them give the number
pub argued_iff : (n : ℕ) (g : Edges) (cs : Conditions) (k : ℕ) → First (argued n g []) 0 → First (argued n g cs) k ↔ First cs k
argued_iff n (one u v) cs k f = let p = first_past f in (first_rest p.0, λ x. inr (p.0, x))
argued_iff n (at v a b) cs k f =
    let p = first_past f in
    let q = first_past p.1 in
    (λ x. first_rest q.0 (first_rest p.0 x), λ x. inr (p.0, inr (q.0, x)))

pub argued_past : (n : ℕ) (g : Edges) (cs : Conditions) → First (argued n g cs) 0 → Argued n g × First cs 0
argued_past n (one u v) cs f = let p = first_past f in (argued_one n u v p.0, p.1)
argued_past n (at v a b) cs f = let p = first_past f in let q = first_past p.1 in (argued_at n v a b p.0 q.0, q.1)

-- ---- the edges: x has those that the tests look at, and m those that the conditions speak of

module _ (n most : ℕ) (g : Edges) (x m : Model) (same : (i j : ℕ) → i < n → j < n → x.edge i j ≡ m.edge i j) where
  -- no edge clashes
  abbrev Unclashed : Bool → Type 0
  Unclashed inserts = First (clashes inserts n most g m []) 0

  pub clashes_agree : (inserts : Bool) (cs : Conditions) (ts : Tests) → (Unclashed inserts → Agree cs ts)
      → Agree (clashes inserts n most g m cs) (clash_tests inserts n most g x ts)
  clashes_agree true cs ts h = (
    some_edge_reflects n g eqb (λ i j. i ≡ j) (λ i j hi hj. reflects_eq i j),
    refl,
    λ p. (
      some_edge_reflects n g _ (λ i j. most ≤ m.edge i j) (λ i j hi hj. rw (same i j hi hj) (reflects_le most (m.edge i j))),
      refl,
      λ q. h (inr (p, inr (q, refl))),
    ),
  )
  clashes_agree false cs ts h = (
    some_edge_reflects n g _ (λ i j. m.edge i j ≡ 0) (λ i j hi hj. rw (same i j hi hj) (reflects_eq (m.edge i j) 0)),
    refl,
    λ p. h (inr (p, refl)),
  )

  pub effects_agree : (inserts : Bool) (grounds : Grounds) (t : Bool) → (inserts ≡ true → Unclashed true → Reflects t grounds.closed)
      → Agree (effects inserts n most g m grounds) (clash_tests inserts n most g x (ending_tests inserts t))
  effects_agree true grounds t h = clashes_agree true (ending true grounds) (ending_tests true t) (λ p. (h refl p, refl, λ d. tt))
  effects_agree false grounds t h = clashes_agree false [] [] (λ p. tt)

-- ---- THE TABLE

module _ (e : Edit) (s : Lent) (m : Model) (grounds : Grounds) where
  pub table_agree : Reflects (length_test e.vertices s) grounds.other
      → (¬ grounds.other → (i j : ℕ) → i < e.vertices → j < e.vertices → mult_at e.vertices s i j ≡ m.edge i j)
      → (¬ grounds.other → Argued e.vertices e.edges → e.inserts ≡ true
      → First (clashes true e.vertices most_parallel e.edges m []) 0
      → Reflects (closes e.vertices s.words (vertex_of e.edges) (predecessors_of e.edges) (successors_of e.edges)) grounds.closed)
      → Agree (table e most_parallel m grounds) (edit_tests e s)
  table_agree other same closed = (
    reflects_or (reflects_lt e.vertices 1) (reflects_lt 64 e.vertices),
    refl,
    λ p. (
      other,
      refl,
      λ d. argued_agree e.vertices e.edges _ _
          (λ a. effects_agree e.vertices most_parallel e.edges (opened e.vertices s) m (same d) e.inserts grounds _ (closed d a)),
    ),
  )

  -- what is known of an edit that is not refused
  pub record Passed : Type 0 where
    pub vertices : ¬ (BadVertices e.vertices)
    pub same : ¬ grounds.other
    pub argued : Argued e.vertices e.edges
    pub effects : First (effects e.inserts e.vertices most_parallel e.edges m grounds) 0

  pub passed : First (table e most_parallel m grounds) 0 → Passed
  passed f =
      let not = first_not (table e most_parallel m grounds) 0 f in
      let rest = argued_past e.vertices e.edges _ (first_rest (not 2 refl) (first_rest (not 1 refl) f)) in
      record { vertices = not 1 refl; same = not 2 refl; argued = rest.0; effects = rest.1 }
