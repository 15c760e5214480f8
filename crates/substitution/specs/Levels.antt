-- What the words of a walk stand for. The products that it keeps, one region for each number of
-- letters, and the sums, kept as residues by position, are cut at an order of at most n.
--
-- Glossary
--   Cut p n v N cut           the order at which all is cut is at most n, and p is a modulus for
--                             which a coefficient fits 16 bits; N = count n v
--   Level p n v N lo cut w at P
--                             the coefficients of P modulo p, cut at order `cut`, stand as entries
--                             at word `at` of w, as in a series but in any order of positions; none
--                             is of an order below lo
--   Holds p n v N wanted cut res A
--                             the words of res, of N + 1 words, are residues; word q is the coefficient
--                             modulo p of A at position q, where that is of an order from `wanted` to
--                             `cut`, and 0 where it is of a higher one
use Rattle.std.specs.Prelude.{◌≡◌, List, ℕ, ◌+◌, ◌*◌, ◌%◌, ◌≤◌, ◌<◌, leb, length, get_or, drop}
use Rattle.algebra.specs.Polynomial.{Polynomial, order, indicator, coefficient_of}
use Rattle.monomial.specs.Count.{count}
use Rattle.series.specs.Image.{position, entries, coefficient_at, monomial_at}
use Rattle.product.specs.Pairs.{order_of}

pub record Cut (p n v N cut : ℕ) : Type 0 where
  pub N_is : N ≡ count n v
  pub cut_low : cut ≤ n
  pub modulus_low : 0 < p
  pub modulus_high : p ≤ 65536

pub record Level (p n v N lo cut : ℕ) (w : List ℕ) (at : ℕ) (P : Polynomial) : Type 0 where
  pub inside : at + (N + 1) ≤ length w
  pub few : get_or w at 0 ≤ N
  pub low : (i : ℕ) → i < get_or w at 0 → 1 ≤ position (get_or w (at + 1 + i) 0)
  pub high : (i : ℕ) → i < get_or w at 0 → position (get_or w (at + 1 + i) 0) ≤ N
  pub least : (i : ℕ) → i < get_or w at 0 → lo ≤ order_of n v (get_or w (at + 1 + i) 0)
  pub coefficient : (q : ℕ) → 1 ≤ q → q ≤ N
      → coefficient_at (entries (drop at w)) q
      ≡ coefficient_of (monomial_at n v q) P * indicator (leb (order (monomial_at n v q)) cut) % p
  pub order : (i : ℕ) → i < get_or w at 0 → order_of n v (get_or w (at + 1 + i) 0) ≤ cut

pub record Holds (p n v N wanted cut : ℕ) (res : List ℕ) (A : Polynomial) : Type 0 where
  pub size : length res ≡ N + 1
  pub small : (q : ℕ) → 1 ≤ q → q ≤ N → get_or res q 0 < p
  pub residue : (q : ℕ) → 1 ≤ q → q ≤ N → wanted ≤ order (monomial_at n v q)
      → get_or res q 0
      ≡ coefficient_of (monomial_at n v q) A * indicator (leb (order (monomial_at n v q)) cut) % p
