-- The laws of text in a buffer: bytes put one after the other, pieces one after the other, and what they leave of the buffer.
-- Assumes nothing.
use mathlib.Core.Path.{◌≡◌, refl, sym, ap, ap₂, ◌∙◌}
use mathlib.Core.List.{List, [], ◌++◌, append_assoc}
use Prim.Native.Nat.{ℕ, ◌+◌, ◌-◌, ◌≤◌, ◌<◌}
use native.Mathlib.Omega.{arith}
use lib.ListN.{length, get_or, take, drop, length-append, length-drop, get_or-append}
use lib.Seq.{take-append_seam, drop-append_seam, length-take-le, paste, paste-zero, length-paste, take-paste, drop-paste, take-length, get_or-drop, drop-drop}
use Rattle.sums.specs.Gather.{gather}
use Rattle.sums.proofs.GatherLaws.{gather_none, gather_more, gather_room}
use Rattle.text.specs.Text.{pasted, Put, written}

-- ---- the bytes b in a buffer from the place at on, as `paste` of them all

pasted_paste : (buffer : List ℕ) (at : ℕ) (b : List ℕ) → pasted buffer at b ≡ paste buffer at b (length b)
pasted_paste buffer at b = ap (λ (x : List ℕ). take at buffer ++ (x ++ drop (at + length b) buffer)) (sym (take-length b)) ∙ sym (append_assoc (take at buffer) _ _)

-- ---- bytes put one after the other

pub put_none : (buffer : List ℕ) (at : ℕ) → Put buffer at [] buffer at
put_none buffer at = record { place = omega arith; bytes = paste-zero buffer at [] ∙ append_assoc (take at buffer) [] _ }

module _ (buffer : List ℕ) (at : ℕ) (b l : List ℕ) (r : ℕ) (p : Put buffer at b l r) where
  pub put_length : at + length b ≤ length buffer → length l ≡ length buffer
  put_length h = ap length (p.bytes ∙ pasted_paste buffer at b) ∙ length-paste buffer at b (length b) h (omega arith)

  pub put_more : (c m : List ℕ) (q : ℕ) → at + length b ≤ length buffer → Put l r c m q → Put buffer at (b ++ c) m q
  put_more c m q h u = record {
    place = u.place ∙ (ap (λ (x : ℕ). x + length c) p.place ∙ rw (length-append b c) (omega arith));
    bytes =
        let w : l ≡ paste buffer at b (length b) = p.bytes ∙ pasted_paste buffer at b in
        let front : take r l ≡ take at buffer ++ b
        = ap₂ (λ (x : ℕ) (y : List ℕ). take x y) p.place w
        ∙ (take-paste buffer at b (length b) (omega arith) (omega arith) ∙ ap (λ (x : List ℕ). take at buffer ++ x) (take-length b)) in
        let far : at + length b + length c ≡ at + length (b ++ c) = rw (length-append b c) (omega arith) in
        let back : drop (r + length c) l ≡ drop (at + length (b ++ c)) buffer
        = sym (drop-drop (length c) r l)
        ∙ (ap (drop (length c)) (ap₂ (λ (x : ℕ) (y : List ℕ). drop x y) p.place w ∙ drop-paste buffer at b (length b) (omega arith) (omega arith))
        ∙ (drop-drop (length c) (at + length b) buffer ∙ ap (λ (x : ℕ). drop x buffer) far)) in
        u.bytes ∙ (ap₂ (λ (x y : List ℕ). x ++ (c ++ y)) front back ∙ (append_assoc (take at buffer) b _ ∙ ap (λ (x : List ℕ). take at buffer ++ x) (sym (append_assoc b c _))));
  }

-- from the first place on
pub put_written : (buffer b l : List ℕ) (r : ℕ) → Put buffer 0 b l r → (r ≡ length b) × (l ≡ written b buffer)
put_written buffer b l r p =
    let z : 0 + length b ≡ length b = omega arith in
    (p.place ∙ z, p.bytes ∙ ap (λ (x : ℕ). b ++ drop x buffer) z)

-- the first r bytes of l, where b has been written and has r bytes
module _ (b buffer l : List ℕ) (r : ℕ) (count : r ≡ length b) (bytes : l ≡ written b buffer) where
  pub written_within : r ≤ length l
  written_within = omega (arith, ap length bytes, length-append b (drop (length b) buffer))

  pub written_front : r ≡ length (take r l)
  written_front = sym (length-take-le r l written_within)

-- bytes in the first places: as many as they are stand there, and those after them are as they were
pub written_first : (b buffer : List ℕ) → take (length b) (written b buffer) ≡ b
written_first b buffer = take-append_seam b (drop (length b) buffer)

pub written_rest : (b buffer : List ℕ) → drop (length b) (written b buffer) ≡ drop (length b) buffer
written_rest b buffer = drop-append_seam b (drop (length b) buffer)

-- byte by byte: the buffer is as long as it was, the first are those put there, and the others are as they were
pub written_length : (b buffer : List ℕ) → length b ≤ length buffer → length (written b buffer) ≡ length buffer
written_length b buffer h = omega (arith, length-append b (drop (length b) buffer), length-drop (length b) buffer)

pub written_after : (b buffer : List ℕ) (x : ℕ) → length b ≤ x → get_or (written b buffer) x 0 ≡ get_or buffer x 0
written_after b buffer x h =
    let e : length b + (x - length b) ≡ x = omega arith in
    let at : (l : List ℕ) → get_or (drop (length b) l) (x - length b) 0 ≡ get_or l x 0
    = λ l. get_or-drop (length b) l (x - length b) 0 ∙ ap (λ (i : ℕ). get_or l i 0) e in
    sym (at (written b buffer)) ∙ ap (λ (l : List ℕ). get_or l (x - length b) 0) (written_rest b buffer) ∙ at buffer

pub written_at : (b buffer : List ℕ) (x : ℕ) → x < length b → get_or (written b buffer) x 0 ≡ get_or b x 0
written_at b buffer x h = get_or-append b (drop (length b) buffer) 0 x h

-- ---- pieces put one after the other

-- of n pieces, for which there is room from the place at on, the first j have been put into a buffer, which has made l of it; r is the place after them
pub record Pieces (buffer : List ℕ) (at : ℕ) (f : ℕ → List ℕ) (n j : ℕ) (l : List ℕ) (r : ℕ) : Type 0 where
  pub room : at + length (gather n f) ≤ length buffer
  pub turns : j ≤ n
  pub long : length l ≡ length buffer
  pub put : Put buffer at (gather j f) l r

pub pieces_start : (buffer : List ℕ) (at : ℕ) (f : ℕ → List ℕ) (n : ℕ) → at + length (gather n f) ≤ length buffer → Pieces buffer at f n 0 buffer at
pieces_start buffer at f n h = record { room = h; turns = omega arith; long = refl; put = rw (gather_none f) (put_none buffer at) }

module _ {buffer : List ℕ} {at : ℕ} {f : ℕ → List ℕ} {n j : ℕ} {l : List ℕ} {r : ℕ} (was : Pieces buffer at f n j l r) where
  pub pieces_room : j < n → r + length (f j) ≤ length l
  pieces_room h = omega (arith, was.put.place, gather_room j n f h)

  pub pieces_more : j < n → {m : List ℕ} {q : ℕ} → Put l r (f j) m q → Pieces buffer at f n (j + 1) m q
  pieces_more h {m} {q} u = record {
    room = was.room;
    turns = omega arith;
    long = put_length l r (f j) m q u (pieces_room h) ∙ was.long;
    put = rw (gather_more j f) (put_more buffer at (gather j f) l r was.put (f j) m q (omega (arith, gather_room j n f h)) u);
  }

  pub pieces_done : n ≤ j → Put buffer at (gather n f) l r
  pieces_done h = let e : j ≡ n = omega arith in rw (← e) was.put
