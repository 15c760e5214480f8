-- What a read gives stands after what stood in the buffer, and both are consumed one after the other.
use Rattle.std.proofs.Common.{rules, ◌≡◌, ℕ, ◌+◌, ◌-◌, ◌≤◌, List, ◌++◌, Option, Some, None, length, take, sym, ap, ◌∙◌, append_assoc, length-take-le}
use Rattle.std.specs.Io.KnownBytes.{Consumes}
use borrow.Rule.Slice.PartMut.{put_mid, post_of}
use Rattle.std.proofs.Math.Seq.{take-append-add, take-append-le}
use Rattle.reading.proofs.read_full.Goals as goal

both : (a b c : Option (List ℕ)) (bs cs : List ℕ) → Consumes a b bs → Consumes b c cs → Consumes a c (bs ++ cs)
both None b c bs cs p q = tt
both (Some x) None c bs cs p q = absurd p
both (Some x) (Some y) None bs cs p q = absurd q
both (Some x) (Some y) (Some z) bs cs p q = p ∙ ap (λ l. bs ++ l) q ∙ sym (append_assoc bs cs z)

-- the first bytes of a buffer whose part from a on was read into
module _ (a k : ℕ) (xs ys : List ℕ) (within : a ≤ length xs) where
  first_bytes : (n : ℕ) → n ≤ length ys → take (a + n) (put_mid a k xs ys) ≡ take a xs ++ take n ys
  first_bytes n fits =
      ap (λ m. take (m + n) (put_mid a k xs ys)) (sym (length-take-le a xs within))
      ∙ take-append-add (take a xs) (ys ++ post_of a k xs) n
      ∙ ap (λ l. take a xs ++ l) (take-append-le n ys (post_of a k xs) fits)

pub loop-done-preserved : goal.loop-done-preserved
loop-done-preserved g c =
    let l = c.loop-done in
    let got = c.in_ok-n.ensures in
    let e = first_bytes l.done (length l.buf - l.done) l.buf c.read.new.buf l.invariant.0 c.in_ok-n.n got.bound.0 in (
      search rules,
      rw e (both _ _ _ _ _ l.invariant.1 got.bytes.0),
    )
