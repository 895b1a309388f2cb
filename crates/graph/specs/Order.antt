-- An order of vertices in which every edge leads to an earlier one, and vertices of which there is none. Definitions only. Assumes nothing.
use Rattle.std.specs.Prelude.{◌≡◌, ℕ, ◌<◌}
use Rattle.graph.specs.Graph.{Edge}

-- v 0, .., v (k - 1) are vertices, and each edge from one of them leads to an earlier one
pub record Order (n : ℕ) (w : ℕ → ℕ → ℕ) (k : ℕ) (v : ℕ → ℕ) : Type 0 where
  pub vertex : (m : ℕ) → m < k → v m < n
  pub earlier : (m : ℕ) → m < k → (b : ℕ) → b < n → Edge n w (v m) b → (l : ℕ) × (l < m) × (v l ≡ b)

-- from each vertex of L an edge leads to a vertex of L
abbrev pub Stuck : (n : ℕ) (w : ℕ → ℕ → ℕ) → (ℕ → Type 0) → Type 0
Stuck n w L = (a : ℕ) → a < n → L a → (b : ℕ) × (b < n) × Edge n w a b × L b
