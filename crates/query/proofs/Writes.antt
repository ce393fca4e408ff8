-- Laws of bytes placed in a buffer. Assumes nothing.
use Rattle.std.proofs.Common.{◌≡◌, ℕ, ◌+◌, ◌<◌, ◌≤◌, List, [], ◌++◌, length, get_or, take, drop, sym, ap, ◌∙◌}
use Rattle.std.proofs.Common.{add-zero, arith}
use Rattle.std.proofs.lemmas.List.{append_assoc, length-append, length-take-le, length-drop, take_at, drop_at}
use Rattle.std.proofs.lemmas.List.{drop-drop, take-append-drop, at_drop_more, at_drop_all}
use Rattle.std.specs.List.{flat_map}
use Rattle.varint.specs.Calls.{placed}
use Rattle.query.specs.declared.put.Writer.{Writer}
use Rattle.query.specs.Writes.{Put, Fits, Puts}

-- placed

pub placed_none : (out : List ℕ) (at : ℕ) → placed out at [] ≡ out
placed_none out at = ap (λ n. take at out ++ drop n out) (add-zero at) ∙ take-append-drop at out

pub length-placed : (out : List ℕ) (at : ℕ) (a : List ℕ) → at + length a ≤ length out
    → length (placed out at a) ≡ length out
length-placed out at a h =
    omega (
      arith,
      length-append (take at out) (a ++ drop (at + length a) out),
      length-append a (drop (at + length a) out),
      length-take-le at out (omega arith),
      length-drop (at + length a) out,
    )

pub placed-append : (out : List ℕ) (at : ℕ) (a b : List ℕ) → at + length (a ++ b) ≤ length out
    → placed (placed out at a) (at + length a) b ≡ placed out at (a ++ b)
placed-append out at a b h =
    let long = length-append a b in
    let front = take at out ++ a in
    let back = drop (at + length a) out in
    let whole : placed out at a ≡ front ++ back = sym (append_assoc (take at out) a back) in
    let n : length front ≡ at + length a = omega
    (arith, length-append (take at out) a, length-take-le at out (omega arith)) in
    let first : take (at + length a) (placed out at a) ≡ front = ap (take (at + length a)) whole
    ∙ take_at front back (at + length a) n in
    let last : drop (at + length a + length b) (placed out at a) ≡ drop (at + length (a ++ b)) out =
    ap (drop (at + length a + length b)) whole
    ∙ sym (drop-drop (length b) (at + length a) (front ++ back))
    ∙ ap (drop (length b)) (drop_at front back (at + length a) n)
    ∙ drop-drop (length b) (at + length a) out
    ∙ ap (λ k. drop k out) (omega arith) in
    ap (λ l. l ++ (b ++ drop (at + length a + length b) (placed out at a))) first
    ∙ ap (λ l. front ++ (b ++ l)) last
    ∙ append_assoc (take at out) a (b ++ drop (at + length (a ++ b)) out)
    ∙ ap (λ l. take at out ++ l) (sym (append_assoc a b (drop (at + length (a ++ b)) out)))

-- Put

-- two writings, one behind the other
pub put_append : (a b : List ℕ) (at mid end : ℕ) (out then after : List ℕ) → at + length (a ++ b) ≤ length out
    → Put a at out mid then → Put b mid then end after → Put (a ++ b) at out end after
put_append a b at mid end out then after h p q = (
  omega (arith, p.0, q.0, length-append a b),
  q.1 ∙ ap (λ l. placed l mid b) p.1 ∙ ap (λ k. placed (placed out at a) k b) p.0
      ∙ placed-append out at a b h,
)

-- the same, of a writer
pub puts_append : (a b : List ℕ) (w v u : Writer) → Fits (a ++ b) w → Puts a w v → Puts b v u → Puts (a ++
    b) w u
puts_append a b w v u h p q = record {
  put = put_append a b w.at v.at u.at w.out.now v.out.now u.out.now h p.put q.put;
  same = q.same ∙ p.same;
}

-- a writing leaves the buffer as long as it was
pub length_put : (a : List ℕ) (at r : ℕ) (out after : List ℕ) → at + length a ≤ length out
    → Put a at out r after
    → length after ≡ length out
length_put a at r out after h p = ap length p.1 ∙ length-placed out at a h

-- room for two writings is room for the first, and for the second behind it
pub room_first : (a b : List ℕ) (at : ℕ) (out : List ℕ) → at + length (a ++ b) ≤ length out → at + length a
    ≤ length out
room_first a b at out h = omega (arith, length-append a b)

pub room_second : (a b : List ℕ) (at mid : ℕ) (out then : List ℕ) → at + length (a ++ b) ≤ length out
    → Put a at out mid then
    → mid + length b ≤ length then
room_second a b at mid out then h p =
    omega (arith, length-append a b, p.0, length_put a at mid out then (room_first a b at out h) p)

-- lists

-- Completes: writing the elements left at the place here of out makes whole what began at start of first
abbrev pub Completes : {A : Type 0} → (A → List ℕ) → List A → List A → List ℕ → ℕ → List ℕ → ℕ → Type 0
Completes code all left first start out here =
    (placed out here (flat_map code left) ≡ placed first start (flat_map code all))
    × (here + length (flat_map code left) ≡ start + length (flat_map code all))
    × (length out ≡ length first)

module _ {A : Type 0} (code : A → List ℕ) (all : List A) (first : List ℕ) (start : ℕ)
    (fits : start + length (flat_map code all) ≤ length first) where
  module _ (i : ℕ) (x : A) (out : List ℕ) (here : ℕ) (l : i < length all) (is : x ≡ get_or all i x)
      (c : Completes code all (drop i all) first start out here) where
    next_left : flat_map code (drop i all) ≡ code x ++ flat_map code (drop (i + 1) all)
    next_left = at_drop_more (flat_map code) all i x l
        ∙ ap (λ y. code y ++ flat_map code (drop (i + 1) all)) (sym is)

    -- there is room for the next element
    pub room_next : here + length (code x) ≤ length out
    room_next =
        omega (
          arith,
          c.1,
          c.2,
          ap length next_left,
          length-append (code x) (flat_map code (drop (i + 1) all)),
        )

    -- the next element was written
    pub completes_more : (after : List ℕ) (there : ℕ) → Put (code x) here out there after
        → Completes code all (drop (i + 1) all) first start after there
    completes_more after there p =
        let rest = flat_map code (drop (i + 1) all) in
        let long = ap length next_left ∙ length-append (code x) rest in
        let fit : here + length (code x ++ rest)
        ≤ length out = omega (arith, c.1, c.2, ap length next_left) in (
          ap (λ o. placed o there rest) p.1 ∙ ap (λ n. placed (placed out here (code x)) n rest) p.0
              ∙ placed-append out here (code x) rest fit ∙ ap (placed out here) (sym next_left) ∙ c.0,
          omega (arith, c.1, p.0, long),
          length_put (code x) here there out after room_next p ∙ c.2,
        )

  -- every element was written
  pub completes_all : (i : ℕ) (out : List ℕ) (here : ℕ) → length all ≤ i
      → Completes code all (drop i all) first start out here
      → Put (flat_map code all) start first here out
  completes_all i out here l c =
      let none = at_drop_all (flat_map code) all i l in (
        omega (arith, c.1, ap length none),
        sym (placed_none out here) ∙ ap (placed out here) (sym none) ∙ c.0,
      )
