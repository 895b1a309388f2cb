-- What an edge, a path and a cycle of a graph are, and what it means that there are exactly k things of a kind.
-- A graph is a number n and a table w: its vertices are the numbers below n, and from i to j run `w i j` edges. Definitions only. Assumes nothing.
use Rattle.std.specs.Prelude.{◌≡◌, ◌⊎◌, List, [], ◌∷◌, ℕ, ◌<◌, length}

infix 50 ◌is_in◌
-- x is one of the entries of a list
abbrev pub ◌is_in◌ : {A : Type 0} → A → List A → Type 0
x is_in [] = ⊥
x is_in (y ∷ l) = (x ≡ y) ⊎ (x is_in l)

-- no two entries of a list are the same
abbrev pub Distinct : {A : Type 0} → List A → Type 0
Distinct [] = Unit {0}
Distinct (x ∷ l) = (¬ (x is_in l)) × Distinct l

-- Exactly k things are a P: some list of length k holds each of them once, and holds nothing else.
pub record Exactly {A : Type 0} (P : A → Type 0) (k : ℕ) : Type 0 where
  pub list : List A
  pub once : Distinct list
  pub all : (x : A) → P x → x is_in list
  pub only : (x : A) → x is_in list → P x
  pub many : length list ≡ k

-- A vertex is a station of document 01.
module _ (n : ℕ) (w : ℕ → ℕ → ℕ) where
  -- At least one edge runs from i to j. An edge is a pipe of document 01.
  abbrev pub Edge : ℕ → ℕ → Type 0
  Edge i j = 0 < w i j

  -- A walk from i to j: an edge leads from i to the first entry of l, another from each entry to the next, and the last entry is j.
  -- Where l is empty, nothing is walked and i is j.
  abbrev pub Walk : ℕ → List ℕ → ℕ → Type 0
  Walk i [] j = i ≡ j
  Walk i (b ∷ l) j = (b < n) × Edge i b × Walk b l j

  -- A path from i to j, a route of document 01: the vertices of a walk from i to j, i itself first, none of them twice.
  -- So a vertex alone is a path to itself.
  abbrev pub IsPath : ℕ → ℕ → List ℕ → Type 0
  IsPath i j [] = ⊥
  IsPath i j (a ∷ l) = (a ≡ i) × (a < n) × Walk a l j × Distinct (a ∷ l)

  -- exactly k paths lead from i to j
  abbrev pub PathsExactly : ℕ → ℕ → ℕ → Type 0
  PathsExactly i j k = Exactly (IsPath i j) k

  -- exactly k of the paths from i to j are a P
  abbrev pub PathsWithExactly : ℕ → ℕ → (List ℕ → Type 0) → ℕ → Type 0
  PathsWithExactly i j P k = Exactly (λ l. IsPath i j l × P l) k

  -- A cycle, a ring of document 01: a walk of one edge or more from a vertex back to it.
  pub record Cycle : Type 0 where
    pub at : ℕ
    pub next : ℕ
    pub rest : List ℕ
    pub bounded : at < n
    pub back : Walk at (next ∷ rest) at

  -- there is no cycle
  abbrev pub Acyclic : Type 0
  Acyclic = Cycle → ⊥
