-- DOCUMENT 01'S TABLE AS ONE STATEMENT. For every n, every length, all words and all bytes: what each of the thirteen calls answers and
-- what it leaves of each buffer, in document 01's words. The statement is about any thirteen calls, named `calls`; `every_call` proves it
-- of those that the contracts describe. Stations, pipes, routes and rings are vertices, edges, paths and cycles (`IsPath`, `Cycle` and
-- `Exactly` stand in crates/graph/specs/Graph.antt); laying and lifting are insertion and deletion; the survey and the test are recount and
-- validate. A `Lent` has the words of a sheet, an `Answer` a number, a place and a value. `get_or l x 0` is the entry of l at the place x,
-- from 0 up, and 0 past its end; `take m` keeps the first m entries, and `drop m` the others; `bit x j` is bit j of x; x - y is 0 if y is
-- greater; `sum n f` is the sum of f 0 to f (n - 1); `delta i j` is 1 if i is j, else 0. `P gives k` is a row of the table; `First` is the
-- number of the first row of a list that holds, and 0 if none does. Definitions only. Assumes nothing.
use Rattle.std.specs.Prelude.{◌≡◌, ◌⊎◌, ◌↔◌, List, [], ◌∷◌, ℕ, zero, suc, ◌+◌, ◌-◌, ◌*◌, ◌/◌, ◌%◌, ◌^◌, ◌≤◌, ◌<◌, length, get_or, take, drop}
use Rattle.sums.specs.Sum.{sum, delta}
use Rattle.word.specs.Bit.{bit}
use Rattle.graph.specs.Graph.{Exactly, IsPath, Cycle}
use Rattle.answer.specs.declared.Answer.{Answer}
use Rattle.answer.specs.Table.{◌gives◌, Conditions, First}
use Rattle.sheet_theory.specs.Lent.{Lent, lent}
use Rattle.sheet_theory.specs.Valid.{Valid}
use Rattle.starred.specs.Calls.{Calls}

-- row i; its bit j, which is 1 exactly if an edge runs from i to j; the count from i to j; and the number of set bits in all rows
abbrev pub row : Lent → ℕ → ℕ
row s i = get_or s.words i 0

abbrev pub edge : Lent → ℕ → ℕ → ℕ
edge s i j = bit (row s i) j

abbrev pub count : ℕ → Lent → ℕ → ℕ → ℕ
count n s i j = get_or s.words (n + i * n + j) 0

abbrev pub ones : ℕ → Lent → ℕ
ones n s = sum n (λ i. sum 64 (edge s i))

-- r answers by the first of the conditions that holds; the place is 0; `value` is said of the value when accepted; it is 0 when refused
pub record Answers (conditions : Conditions) (r : Answer) (value : Type 0) : Type 0 where
  pub number : First conditions r.number
  pub place : r.place ≡ 0
  pub accepted : r.number ≡ 0 → value
  pub refused : ¬ (r.number ≡ 0) → r.value ≡ 0

-- what r leaves of a buffer: `made` is said of it when accepted, and when refused it is unchanged
abbrev pub Leaves : {A : Type 0} → Answer → A → A → Type 0 → Type 0
Leaves r before after made = (r.number ≡ 0 → made) × (¬ (r.number ≡ 0) → after ≡ before)

-- the value is 1 if P holds, and 0 if not
abbrev pub Tells : Answer → Type 0 → Type 0
Tells r P = (P × (r.value ≡ 1)) ⊎ ((¬ P) × (r.value ≡ 0))

-- what every call looks for first. 1: n is not 1 to 64. 2: the sheet isn't n + n × n words.
abbrev pub every : ℕ → Lent → Conditions → Conditions
every n s l = ((n < 1) ⊎ (64 < n)) gives 1 ∷ (¬ (length s.words ≡ n + n * n)) gives 2 ∷ l

-- some bit of x at n or above is set
abbrev pub Stray : ℕ → ℕ → Type 0
Stray n x = (j : ℕ) × (n ≤ j) × (bit x j ≡ 1)

-- an edit at v: its edges run to v from the vertices of the mask A, and from v to those of the mask B
module _ (n : ℕ) (s : Lent) (v A B : ℕ) where
  -- the edge from i to j is one of them
  abbrev pub Named : ℕ → ℕ → Type 0
  Named i j = ((bit A i ≡ 1) × (j ≡ v)) ⊎ ((i ≡ v) × (bit B j ≡ 1))

  -- one of them, between vertices below n, is a P
  abbrev pub SomeNamed : (ℕ → ℕ → Type 0) → Type 0
  SomeNamed P = (i : ℕ) × (j : ℕ) × (i < n) × (j < n) × Named i j × P i j

  -- F(i) and T(j), by the counts before the edit
  abbrev pub F : ℕ → ℕ
  F i = sum n (λ a. bit A a * count n s i a)

  abbrev pub T : ℕ → ℕ
  T j = sum n (λ b. bit B b * count n s b j)

  -- a cycle by the counts: count(v, a) isn't zero for some a in A, or count(b, v) for some b in B, or count(b, a) for some pair of them
  abbrev pub CycleByCounts : Type 0
  CycleByCounts = ((a : ℕ) × (a < n) × (bit A a ≡ 1) × (¬ (count n s v a ≡ 0))) ⊎ ((b : ℕ) × (b < n) × (bit B b ≡ 1) × (¬ (count n s b v ≡ 0)))
      ⊎ ((a : ℕ) × (b : ℕ) × (a < n) × (b < n) × (bit A a ≡ 1) × (bit B b ≡ 1) × (¬ (count n s b a ≡ 0)))

  -- an accepted edit leaves t: the bits of its edges are x, the others as they were; `counted` is said of each count; t is valid if s is
  pub record Edited (t : Lent) (x : ℕ) (counted : ℕ → ℕ → Type 0) : Type 0 where
    pub length : length t.words ≡ length s.words
    pub word : (i : ℕ) → i < n → row t i < 2 ^ 64
    pub named : (i j : ℕ) → i < n → j < 64 → Named i j → edge t i j ≡ x
    pub others : (i j : ℕ) → i < n → j < 64 → ¬ (Named i j) → edge t i j ≡ edge s i j
    pub counts : (i j : ℕ) → i < n → j < n → counted i j
    pub valid : Valid n s → Valid n t

  -- insertion, where `first` puts 1 to 4 before. 5: from a vertex to itself. 6: already there. 8: a cycle, by the counts; on a valid sheet
  -- that is a cycle among the edges of the sheet and all those of the edit together.
  abbrev pub laying : (Conditions → Conditions) → Type 0 → Conditions
  laying first cycle = first (SomeNamed (λ i j. i ≡ j) gives 5 ∷ SomeNamed (λ i j. edge s i j ≡ 1) gives 6 ∷ cycle gives 8 ∷ [])

  pub record Insertion (first : Conditions → Conditions) (r : Answer) (t : Lent) : Type 0 where
    pub answers : Answers (laying first CycleByCounts) r (r.value ≡ ones n t)
    pub valid : Valid n s → First (laying first (Cycle n (λ i j. edge s i j + bit A i * delta j v + delta i v * bit B j))) r.number
    pub leaves : Leaves r s t (Edited t 1 (λ i j. count n t i j ≡ (count n s i j + (count n s i v * T j + F i * count n s v j + F i * T j)) % 2 ^ 64))

  -- deletion. 7: not there. What document 01 subtracts is here added to the count after the edit; only one number below 2^64 satisfies this.
  pub record Deletion (first : Conditions → Conditions) (r : Answer) (t : Lent) : Type 0 where
    pub answers : Answers (first (SomeNamed (λ i j. edge s i j ≡ 0) gives 7 ∷ [])) r (r.value ≡ ones n t)
    pub leaves : Leaves r s t (Edited t 0 (λ i j. (count n t i j < 2 ^ 64)
        × ((count n t i j + (count n s i v * T j + F i * count n s v j)) % 2 ^ 64 ≡ (count n s i j + F i * T j) % 2 ^ 64)))

-- what is looked for before 5 or 7, of one edge and of masks. 3: a vertex is n or more. 4: a mask has a bit at n or above.
abbrev pub one : ℕ → Lent → ℕ → ℕ → Conditions → Conditions
one n s u v l = every n s (((n ≤ u) ⊎ (n ≤ v)) gives 3 ∷ l)

abbrev pub masks : ℕ → Lent → ℕ → ℕ → ℕ → Conditions → Conditions
masks n s v A B l = every n s ((n ≤ v) gives 3 ∷ (Stray n A ⊎ Stray n B) gives 4 ∷ l)

-- p is a path from i to j, and exactly k such paths l come before it: at the first place where the two differ, x, l has the lower vertex
abbrev pub Ranked : ℕ → Lent → ℕ → ℕ → ℕ → List ℕ → Type 0
Ranked n s i j k p = IsPath n (edge s) i j p × Exactly (λ l. IsPath n (edge s) i j l
    × ((x : ℕ) × (x < length l) × (x < length p) × ((y : ℕ) → y < x → get_or l y 0 ≡ get_or p y 0) × (get_or l x 0 < get_or p x 0))) k

-- p is the walk from i to j by the rank k, of at most n vertices, of which the last alone is j; `left x` is what is left of k at the place x.
-- At each step the counts to j from the neighbours below the next vertex are taken off, and what is left is below the count from the next;
-- at j nothing is left.
abbrev pub IsWalk : ℕ → Lent → ℕ → ℕ → ℕ → List ℕ → Type 0
IsWalk n s i j k p = let at : ℕ → ℕ = λ x. get_or p x 0 in let last : ℕ = length p - 1 in
    (left : ℕ → ℕ) × (0 < length p) × (length p ≤ n) × (at 0 ≡ i) × (left 0 ≡ k) × (at last ≡ j) × (left last ≡ 0)
    × ((x : ℕ) → x < last → (¬ (at x ≡ j)) × (at (suc x) < n) × (edge s (at x) (at (suc x)) ≡ 1) × (left (suc x) < count n s (at (suc x)) j)
    × (left x ≡ sum (at (suc x)) (λ b. edge s (at x) b * count n s b j) + left (suc x)))

-- from the place m on, the buffer after is as before
abbrev pub Rest : ℕ → List ℕ → List ℕ → Type 0
Rest m before after = (length after ≡ length before) × ((x : ℕ) → m ≤ x → get_or after x 0 ≡ get_or before x 0)

-- the 8 bytes from 8 × m on are the record of a letter, u and v: the letter, a space, two digits, a space, two digits, a line feed
abbrev pub Form : List ℕ → ℕ → ℕ → ℕ → ℕ → Type 0
Form bytes m letter u v = (u < 100) × (v < 100)
    × (take 8 (drop (8 * m) bytes) ≡ letter ∷ 32 ∷ (48 + u / 10) ∷ (48 + u % 10) ∷ 32 ∷ (48 + v / 10) ∷ (48 + v % 10) ∷ 10 ∷ [])

-- the record m of a plan, from 0 up, has on s the number k and leaves t: L (76) inserts an edge, T (84) deletes one, and any other is 14
pub data RecordGives (calls : Calls) (n : ℕ) (plan : List ℕ) (m : ℕ) (s : Lent) (k : ℕ) (t : Lent) : Type 0 where
  inserts : (u v : ℕ) (r : Answer) → Form plan m 76 u v → calls.insert_edge n s u v r t → k ≡ r.number → RecordGives calls n plan m s k t
  deletes : (u v : ℕ) (r : Answer) → Form plan m 84 u v → calls.delete_edge n s u v r t → k ≡ r.number → RecordGives calls n plan m s k t
  malformed : ((u v : ℕ) → (¬ (Form plan m 76 u v)) × (¬ (Form plan m 84 u v))) → k ≡ 14 → t ≡ s → RecordGives calls n plan m s k t

-- the first m records of a plan, applied in order to s and none of them refused, leave t
abbrev pub RecordsTaken : Calls → ℕ → List ℕ → Lent → ℕ → Lent → Type 0
RecordsTaken calls n plan s zero t = t ≡ s
RecordsTaken calls n plan s (suc m) t = (q : Lent) × RecordsTaken calls n plan s m q × RecordGives calls n plan m q 0 t

-- 9: the sheet is not valid. 13: the length is not a multiple of 8, or over 32,768 bytes.
abbrev pub before_records : ℕ → Lent → List ℕ → Conditions
before_records n s plan = every n s ((¬ (Valid n s)) gives 9 ∷ ((¬ (length plan % 8 ≡ 0)) ⊎ (32768 < length plan)) gives 13 ∷ [])

-- a plan is refused before its first record; or all its records are taken; or the record m is refused on q, which those before it left
pub data PlanRead (calls : Calls) (n : ℕ) (s : Lent) (plan : List ℕ) (r : Answer) (t : Lent) : Type 0 where
  early : First (before_records n s plan) r.number → ¬ (r.number ≡ 0) → r.place ≡ 0 → r.value ≡ 0 → t ≡ s → PlanRead calls n s plan r t
  taken : First (before_records n s plan) 0 → r.number ≡ 0 → r.place ≡ 0 → r.value ≡ ones n t → RecordsTaken calls n plan s (length plan / 8) t → Valid n t
      → PlanRead calls n s plan r t
  stopped : (m : ℕ) (q rest : Lent) → First (before_records n s plan) 0 → m < length plan / 8 → RecordsTaken calls n plan s m q → RecordGives calls n plan m q r.number rest
      → ¬ (r.number ≡ 0) → r.place ≡ suc m → r.value ≡ 0 → t ≡ s → PlanRead calls n s plan r t

-- THE STATEMENT
pub record EveryCall (calls : Calls) (n : ℕ) (s : Lent) : Type 0 where
  -- what a contract speaks of, `lent` of a buffer, has the words of the buffer
  pub words : (l : List ℕ) → (lent l).words ≡ l
  -- a sheet is valid (document 01: true) if no row has a bit at n or above, there is no cycle, and each count is the number of paths
  pub valid : Valid n s ↔ ((1 ≤ n) × (n ≤ 64) × (length s.words ≡ n + n * n) × ((i : ℕ) → i < n → ¬ (Stray n (row s i)))
      × (¬ (Cycle n (edge s))) × ((i j : ℕ) → i < n → j < n → Exactly (IsPath n (edge s) i j) (count n s i j)))
  -- an empty sheet is the valid sheet without edges; the value is 0
  pub empty : (r : Answer) (t : Lent) → calls.empty n s r t →
      Answers (every n s []) r (r.value ≡ 0) × Leaves r s t (Valid n t × ((i : ℕ) → i < n → row t i ≡ 0))
  -- the four edits; one edge from u to v is the edit at u with A empty and B = {v}
  pub insert : (u v : ℕ) (r : Answer) (t : Lent) → calls.insert_edge n s u v r t → Insertion n s u 0 (2 ^ v) (one n s u v) r t
  pub delete : (u v : ℕ) (r : Answer) (t : Lent) → calls.delete_edge n s u v r t → Deletion n s u 0 (2 ^ v) (one n s u v) r t
  pub insert_at : (v A B : ℕ) (r : Answer) (t : Lent) → calls.insert_edges_at n s v A B r t → Insertion n s v A B (masks n s v A B) r t
  pub delete_at : (v A B : ℕ) (r : Answer) (t : Lent) → calls.delete_edges_at n s v A B r t → Deletion n s v A B (masks n s v A B) r t
  -- a count is the word, on any sheet
  pub path_count : (i j : ℕ) (r : Answer) → calls.path_count n s i j r → Answers (every n s (((n ≤ i) ⊎ (n ≤ j)) gives 3 ∷ [])) r (r.value ≡ count n s i j)
  -- supply without an edge: whether product and count differ; on a valid sheet, whether a path goes over the other edges. 7: no such edge.
  pub reaches_without : (i j u v : ℕ) (r : Answer) → calls.reaches_without n s i j u v r →
      Answers (every n s (((n ≤ i) ⊎ (n ≤ j) ⊎ (n ≤ u) ⊎ (n ≤ v)) gives 3 ∷ (edge s u v ≡ 0) gives 7 ∷ [])) r
      (Tells r (¬ (count n s i u * count n s v j % 2 ^ 64 ≡ count n s i j)))
      × (Valid n s → r.number ≡ 0 → Tells r ((l : List ℕ) × IsPath n (λ a b. edge s a b - delta a u * delta b v) i j l))
  -- the path of rank k: the walk, whose vertices fill the first bytes. 10: under n bytes. 11: k is not below the count. 9: there is no walk.
  pub unrank : (i j k : ℕ) (before : List ℕ) (r : Answer) (after : List ℕ) → calls.unrank n s i j k before r after → let Walk = IsWalk n s i j k in
      Answers (every n s (((n ≤ i) ⊎ (n ≤ j)) gives 3 ∷ (length before < n) gives 10 ∷ (count n s i j ≤ k) gives 11
      ∷ (¬ ((p : List ℕ) × Walk p)) gives 9 ∷ [])) r
      ((p : List ℕ) × Walk p × (r.value ≡ length p) × (Valid n s → Ranked n s i j k p)
      × Rest (length p) before after × ((x : ℕ) → x < length p → get_or after x 0 ≡ get_or p x 0))
      × (¬ (r.number ≡ 0) → after ≡ before) × (Valid n s → ¬ (r.number ≡ 9))
  -- the rank of a path. 3: a vertex of the path is n or more. 12: no vertices, more than n, or two neighbours without an edge. The value is
  -- the sum, modulo 2 to the 64, of the counts to its end that are passed over; on a valid sheet it is the rank.
  pub rank : (p : List ℕ) (r : Answer) → calls.rank n s p r →
      let at : ℕ → ℕ = λ x. get_or p x 0 in let end : ℕ = at (length p - 1) in
      Answers (every n s (((x : ℕ) × (x < length p) × (n ≤ at x)) gives 3
      ∷ ((length p ≡ 0) ⊎ (n < length p) ⊎ ((x : ℕ) × (suc x < length p) × (edge s (at x) (at (suc x)) ≡ 0))) gives 12 ∷ [])) r
      (r.value ≡ sum (length p - 1) (λ x. sum (at (suc x)) (λ b. edge s (at x) b * count n s b end)) % 2 ^ 64)
      × (Valid n s → r.number ≡ 0 → Ranked n s (at 0) end r.value p)
  -- the recount. 4: a row has a bit at n or above. 8: a cycle. The rows stay, and each count is the number of paths.
  pub recount : (r : Answer) (t : Lent) → calls.recount n s r t →
      Answers (every n s (((i : ℕ) × (i < n) × Stray n (row s i)) gives 4 ∷ Cycle n (edge s) gives 8 ∷ [])) r (r.value ≡ ones n s)
      × Leaves r s t ((length t.words ≡ length s.words) × ((i : ℕ) → i < n → row t i ≡ row s i)
      × ((i j : ℕ) → i < n → j < n → Exactly (IsPath n (edge s) i j) (count n t i j)))
  -- the test of a stored sheet says 1 exactly if the sheet is valid
  pub validate : (r : Answer) → calls.validate n s r → Answers (every n s []) r (Tells r (Valid n s))
  -- a plan is read as `PlanRead` says
  pub read_plan : (plan : List ℕ) (r : Answer) (t : Lent) → calls.read_plan n s plan r t → PlanRead calls n s plan r t
  -- a plan written. 10: under 8 bytes an edge. A record stands after as many others as there are edges before its own, by from, then to.
  pub write_plan : (before : List ℕ) (r : Answer) (after : List ℕ) → calls.write_plan n s before r after →
      Answers (every n s ((¬ (Valid n s)) gives 9 ∷ (length before < 8 * ones n s) gives 10 ∷ [])) r (r.value ≡ 8 * ones n s)
      × Leaves r before after (Rest (8 * ones n s) before after
      × ((i j : ℕ) → i < n → j < n → edge s i j ≡ 1 → Form after (sum i (λ a. sum 64 (edge s a)) + sum j (edge s i)) 76 i j))
  -- the maker of the sheet's type, the empty sheet of 64 vertices; and the greatest sizes, 64 vertices, 4,160 words and 2,016 edges
  pub maker : (l : List ℕ) → calls.maker l → Valid 64 (lent l) × ((i : ℕ) → i < 64 → row (lent l) i ≡ 0)
  pub sizes : (Valid n s → (length s.words ≤ 4160) × (ones n s ≤ 2016)) × ((t : Lent) × Valid 64 t × (length t.words ≡ 4160) × (ones 64 t ≡ 2016))
  -- without a cycle, a number of paths fits a word with at most 64 vertices, and is at most 2 to the power n - 2 for n of 2 or more
  pub bound : (w : ℕ → ℕ → ℕ) → ¬ (Cycle n w) → (i j k : ℕ) → i < n → j < n → Exactly (IsPath n w i j) k
      → (n ≤ 64 → k < 2 ^ 64) × (2 ≤ n → k ≤ 2 ^ (n - 2))
