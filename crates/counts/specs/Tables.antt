-- Slices that begin with the monomial table.
--
-- Right n v t        the slice t begins with the table for n and v, which are allowed
-- Tabled n v N E t   the same, N and E being its sizes
use Rattle.std.specs.Prelude.{◌≡◌, List, ℕ, ◌≤◌, ◌<◌, length, get_or}
use Rattle.monomial.specs.Count.{count, codes, words, Allowed}
use Rattle.monomial.specs.Table.{table_words}

pub record Right (n v : ℕ) (t : List ℕ) : Type 0 where
  pub allowed : Allowed n v
  pub long : words n v ≤ length t
  pub word : (i : ℕ) → i < words n v → get_or t i 0 ≡ get_or (table_words n v) i 0

pub record Tabled (n v N E : ℕ) (t : List ℕ) : Type 0 where
  pub right : Right n v t
  pub N_is : N ≡ count n v
  pub E_is : E ≡ codes n v
