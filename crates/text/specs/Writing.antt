-- Text written into a buffer.
--
-- text_at at text old      old with the bytes of text from index at on
-- Wrote at text old new end    new is that, and end is the index after the text
-- Room w text              there is room for the text after what the writer w has written
-- Writes old text new      the writer old became new by writing the text, into the same buffer
-- SameBuffer old new       the writers old and new have the same buffer, which keeps its length
use Rattle.std.specs.Prelude.{◌≡◌, List, ◌++◌, ℕ, ◌+◌, ◌≤◌, length, take, drop}
use Rattle.text.specs.declared.Writer.{Writer}

unfoldable pub text_at : ℕ → List ℕ → List ℕ → List ℕ
text_at at text old = take at old ++ (text ++ drop (at + length text) old)

pub record Wrote (at : ℕ) (text old new : List ℕ) (end : ℕ) : Type 0 where
  pub ended : end ≡ at + length text
  pub bytes : new ≡ text_at at text old

abbrev pub Room : Writer → List ℕ → Type 0
Room w text = w.at + length text ≤ length w.out.now

pub record Writes (old : Writer) (text : List ℕ) (new : Writer) : Type 0 where
  pub same : new.out.ghost_name ≡ old.out.ghost_name
  pub wrote : Wrote old.at text old.out.now new.out.now new.at

pub record SameBuffer (old new : Writer) : Type 0 where
  pub same : new.out.ghost_name ≡ old.out.ghost_name
  pub long : length new.out.now ≡ length old.out.now
