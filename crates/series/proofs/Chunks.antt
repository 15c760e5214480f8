-- The first v parts of r words of a slice, which come one after another from an iterator over its chunks.
use Rattle.std.proofs.Common.{ℕ, ◌+◌, ◌*◌, ◌≤◌, ◌<◌, ◌≡◌, sym, ap, ◌∙◌, List, ◌++◌, zero-mul, arith, length, take, drop, length-drop, take_at, drop_at, drop-drop}
use Rattle.std.proofs.Math.Decide.{dec_lt}

-- what the iterator has left after k of them: a number of parts, their size, and the words that they are of
pub record PartsLeft (r v : ℕ) (ws : List ℕ) (k left size : ℕ) (rest : List ℕ) : Type 0 where
  pub left_is : left + k ≡ v
  pub size_is : size ≡ r
  pub rest_is : rest ≡ drop (k * r) ws

pub parts-none : {r v : ℕ} {ws : List ℕ} {left size : ℕ} {rest : List ℕ} → left ≡ v → size ≡ r → rest ≡ ws
    → PartsLeft r v ws 0 left size rest
parts-none {r} {v} {ws} a b e = record {
  left_is = omega arith;
  size_is = b;
  rest_is = e ∙ ap (λ (x : ℕ). drop x ws) (sym (zero-mul r));
}

module _ {r v : ℕ} {ws : List ℕ} {k left size : ℕ} {rest : List ℕ} (Q : PartsLeft r v ws k left size rest) where
  -- one more
  module _ (part rest' : List ℕ) (e : rest ≡ part ++ rest') (long : length part ≡ size) where
    whole : length part ≡ r
    whole = long ∙ Q.size_is

    pub part_next : part ≡ take r (drop (k * r) ws)
    part_next = sym (take_at part rest' r whole) ∙ ap (take r) (sym e ∙ Q.rest_is)

    pub parts_more : {left' size' : ℕ} → left' + 1 ≡ left → size' ≡ size → PartsLeft r v ws (k + 1) left' size' rest'
    parts_more f h = record {
      left_is = omega (arith, Q.left_is);
      size_is = h ∙ Q.size_is;
      rest_is =
          let next : k * r + r ≡ (k + 1) * r = omega arith in
          sym (drop_at part rest' r whole)
          ∙ ap (drop r) (sym e ∙ Q.rest_is)
          ∙ drop-drop r (k * r) ws
          ∙ ap (λ (x : ℕ). drop x ws) next;
    }

  -- all have come
  pub parts-all : (k < v → k * r + r ≤ length ws) → (0 < left → length rest < size) → v ≤ k
  parts-all inside none = at (dec_lt k v)
    where
      at : Dec (k < v) → v ≤ k
      at (no a) = omega arith
      at (yes a) =
          let few : length rest < size = none (omega (arith, Q.left_is)) in
          let room : k * r + r ≤ length ws = inside a in
          absurd (omega (arith, Q.size_is, ap length Q.rest_is, length-drop (k * r) ws))
