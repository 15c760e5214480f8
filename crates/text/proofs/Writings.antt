-- Writing two texts one after the other is writing both at once, where there is room for both.
use Rattle.std.proofs.Common.{◌≡◌, refl, sym, ap, ◌∙◌, List, [], ◌∷◌, ◌++◌, append_assoc, ℕ, ◌+◌, ◌≤◌, ◌<◌, add_assoc, add-zero, add-one, arith, length, take, drop, set, length-append, length-take, length-drop, take-append-drop, take_at, drop_at, drop-drop, length-take-le}
use Rattle.std.proofs.Math.Seq.{set_split}
use Rattle.text.specs.declared.Writer.{Writer}
use Rattle.text.specs.Writing.{text_at, Wrote, Room, Writes, SameBuffer}

-- the parts of a buffer before and after the end of a text text_at into it
module _ (at : ℕ) (text old : List ℕ) (room : at + length text ≤ length old) where
  length-head : length (take at old ++ text) ≡ at + length text
  length-head =
      length-append (take at old) text
      ∙ ap (λ (k : ℕ). k + length text) (length-take-le at old (omega arith))

  take-text_at : take (at + length text) (text_at at text old) ≡ take at old ++ text
  unfolding text_at
  take-text_at =
      rw (← append_assoc (take at old) text (drop (at + length text) old))
      (take_at (take at old ++ text) (drop (at + length text) old) (at + length text) length-head)

  drop-text_at : drop (at + length text) (text_at at text old) ≡ drop (at + length text) old
  unfolding text_at
  drop-text_at =
      rw (← append_assoc (take at old) text (drop (at + length text) old))
      (drop_at (take at old ++ text) (drop (at + length text) old) (at + length text) length-head)

  pub length-text_at : length (text_at at text old) ≡ length old
  unfolding text_at
  length-text_at = simp (length-append, length-take, length-drop) (omega arith)

  pub wrote_take : {end : ℕ} {new : List ℕ} → Wrote at text old new end
      → take end new ≡ take at old ++ text
  wrote_take w = rw (w.ended, w.bytes) take-text_at

  pub wrote_drop : {end : ℕ} {new : List ℕ} → Wrote at text old new end
      → drop end new ≡ drop end old
  wrote_drop w = rw (w.ended, w.bytes) drop-text_at

pub wrote_nothing : (at : ℕ) (old : List ℕ) → Wrote at [] old old at
unfolding text_at
wrote_nothing at old = record { ended = omega arith; bytes = rw (add-zero, take-append-drop) }

pub wrote_byte : (at b : ℕ) (old : List ℕ) → at < length old
    → Wrote at (b ∷ []) old (set old at b) (at + 1)
unfolding text_at
wrote_byte at b old room =
    record { ended = omega arith; bytes = rw (set_split old at b room, add-one) }

-- a text written at the start of a buffer, without changing its length, is no longer than it
pub wrote_fits : {end : ℕ} {text old new : List ℕ} → Wrote 0 text old new end
    → length new ≡ length old → length text ≤ length old
unfolding text_at
wrote_fits w same = omega (arith, simp (length-append, length-drop) at (ap length w.bytes))

-- where there is room for both texts, there is room for the first, and then for the second
pub room-first : (at : ℕ) (s t : List ℕ) {room : ℕ} → at + length (s ++ t) ≤ room
    → at + length s ≤ room
room-first at s t h = omega (arith, length-append s t)

pub room-second : {at end : ℕ} {s old mid : List ℕ} (t : List ℕ)
    → at + length (s ++ t) ≤ length old → Wrote at s old mid end → end + length t ≤ length mid
room-second {at} {s = s} {old = old} t room w =
    let same = length-text_at at s old (room-first at s t room) in
    rw (w.ended, w.bytes, same) (omega (arith, length-append s t))

unfold_text_at : (at : ℕ) (text old : List ℕ)
    → text_at at text old ≡ take at old ++ (text ++ drop (at + length text) old)
unfolding text_at
unfold_text_at at text old = refl

text_at-append : (at : ℕ) (s t old : List ℕ) → at + length (s ++ t) ≤ length old
    → text_at (at + length s) t (text_at at s old) ≡ text_at at (s ++ t) old
text_at-append at s t old room =
    let first = room-first at s t room in
    let ends = at + length s in
    unfold_text_at ends t (text_at at s old)
    ∙ rw (
      take-text_at at s old first,
      ← drop-drop (length t) ends (text_at at s old),
      drop-text_at at s old first,
      drop-drop (length t) ends old,
      append_assoc (take at old) s (t ++ drop (ends + length t) old),
      ← append_assoc s t (drop (ends + length t) old),
      add_assoc at (length s) (length t),
      ← length-append s t,
    )
    (sym (unfold_text_at at (s ++ t) old))

pub wrote_append : {at end last : ℕ} {s t old mid new : List ℕ} → at + length (s ++ t) ≤ length old
    → Wrote at s old mid end → Wrote end t mid new last → Wrote at (s ++ t) old new last
wrote_append {at} {s = s} {t = t} {old = old} room p q = record {
  ended = omega (arith, p.ended, q.ended, length-append s t);
  bytes = q.bytes ∙ rw (p.ended, p.bytes) (text_at-append at s t old room);
}

-- ---- the same of a writer

pub writes_nothing : (w : Writer) → Writes w [] w
writes_nothing w = record { same = refl; wrote = wrote_nothing w.at w.out.now }

pub writes_append : {u w x : Writer} {s t : List ℕ} → Room u (s ++ t) → Writes u s w → Writes w t x
    → Writes u (s ++ t) x
writes_append room p q = record { same = q.same ∙ p.same; wrote = wrote_append room p.wrote q.wrote }

pub room-then : {u w : Writer} {s : List ℕ} (t : List ℕ) → Room u (s ++ t) → Writes u s w → Room w t
room-then t room p = room-second t room p.wrote

pub writes_same : {u w : Writer} {s : List ℕ} → Room u s → Writes u s w → SameBuffer u w
writes_same {u} {s = s} room p = record {
  same = p.same;
  long = ap length p.wrote.bytes ∙ length-text_at u.at s u.out.now room;
}

-- a line of three texts and a last byte: room for each, and all of it written
module _ (u : Writer) (b : ℕ) (s t r : List ℕ) (room : Room u (s ++ t ++ r ++ (b ∷ []))) where
  three : Room u (s ++ t ++ r)
  three = room-first u.at (s ++ t ++ r) (b ∷ []) room

  two : Room u (s ++ t)
  two = room-first u.at (s ++ t) r three

  pub room-line₁ : Room u s
  room-line₁ = room-first u.at s t two

  pub room-line₂ : {w : Writer} → Writes u s w → Room w t
  room-line₂ p = room-then t two p

  pub room-line₃ : {w x : Writer} → Writes u s w → Writes w t x → Room x r
  room-line₃ p q = room-then r three (writes_append two p q)

  pub room-line₄ : {w x y : Writer} → Writes u s w → Writes w t x → Writes x r y → Room y (b ∷ [])
  room-line₄ p q o = room-then (b ∷ []) room (writes_append three (writes_append two p q) o)

  pub writes_line : {w x y z : Writer} → Writes u s w → Writes w t x → Writes x r y → Writes y (b ∷ []) z
      → Writes u (s ++ t ++ r ++ (b ∷ [])) z
  writes_line p q o e = writes_append room (writes_append three (writes_append two p q) o) e
