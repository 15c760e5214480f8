-- Finding the position of a monomial with one exponent made less, in a right table: its codes are
-- those of the monomial less those of the variable, and D1 and D2 lead from them to its position
-- (002, 11).
use Rattle.std.proofs.Common.{◌≡◌, sym, ap, ap₂, ◌∙◌, List, ℕ, ◌+◌, ◌-◌, ◌≤◌, ◌<◌, arith, get_or}
use Rattle.algebra.specs.Polynomial.{Monomial, exponent, lower}
use Rattle.monomial.specs.Count.{count, codes, words}
use Rattle.monomial.specs.Table.{C1, C2, D1, D2, position_of, Stands}
use Rattle.monomial.proofs.Words.{word-D1, word-D2}
use Rattle.monomial.proofs.Size.{length-monomials}
use Rattle.series.specs.Image.{monomial_at}
use Rattle.counts.specs.Tables.{Right, Tabled}
use Rattle.derivation.specs.Derivative.{Weighed}
use Rattle.product.proofs.TableWords.{first_word, second_word, first_small, second_below}
use Rattle.derivation.proofs.DerivativeOrder.{C1-lower, C2-lower, placed_lowered}

module _ {n v N E k at first second : ℕ} {t : List ℕ} {q : ℕ} (r : Tabled n v N E t) (s : Weighed n v k at first second)
    (low : 1 ≤ q) (high : q ≤ N) (positive : 0 < exponent k (monomial_at n v q)) where
  abbrev right : Right n v t
  right = r.right

  q_high : q ≤ count n v
  q_high = omega (arith, r.N_is)

  -- the monomial, and the codes of the lowered one
  abbrev m : Monomial
  m = monomial_at n v q

  abbrev c1 : ℕ
  c1 = C1 n v (lower k m)

  abbrev c2 : ℕ
  c2 = C2 n v (lower k m)

  size : words n v ≡ N + N + E + E
  unfolding words
  size = omega (arith, r.N_is, r.E_is)

  -- ---- the codes

  first_code : get_or t (q - 1) 0 ≡ c1 + first
  first_code =
      first_word n v t right q low q_high
      ∙ sym (C1-lower n v k m positive)
      ∙ ap (λ (z : ℕ). c1 + z) (sym s.first_is)

  second-code : get_or t (N + (q - 1)) 0 ≡ c2 + second
  second-code =
      ap (λ (z : ℕ). get_or t (z + (q - 1)) 0) r.N_is
      ∙ second_word n v t right q low q_high
      ∙ sym (C2-lower n v k m positive)
      ∙ ap (λ (z : ℕ). c2 + z) (sym s.second_is)

  c1-small : c1 < codes n v
  c1-small =
      let l = first_small n v t right q low q_high in
      omega (arith, C1-lower n v k m positive)

  c2-small : c2 < codes n v
  c2-small =
      let l = second_below n v t right q low q_high in
      omega (arith, C2-lower n v k m positive)

  -- ---- the words of D1 and D2

  at_first : get_or t (N + N + c1) 0 ≡ D1 n v c1
  at_first =
      let a = count n v + (count n v + c1) in
      let z : N + N + c1 ≡ a = omega (arith, r.N_is) in
      ap (λ (y : ℕ). get_or t y 0) z
      ∙ right.word a (omega (arith, size, r.N_is, r.E_is, c1-small))
      ∙ word-D1 n v c1 c1-small

  at_second : get_or t (N + N + E + c2) 0 ≡ D2 n v c2
  at_second =
      let a = count n v + (count n v + (codes n v + c2)) in
      let z : N + N + E + c2 ≡ a = omega (arith, r.N_is, r.E_is) in
      ap (λ (y : ℕ). get_or t y 0) z
      ∙ right.word a (omega (arith, size, r.N_is, r.E_is, c2-small))
      ∙ word-D2 n v c2 c2-small

  -- the codes x and y of the position, less those of the variable, lead to the position of the lowered monomial
  pub record Found (x y : ℕ) : Type 0 where
    pub first_above : first ≤ x
    pub second_above : second ≤ y
    pub first_in : x - first < E
    pub second_in : y - second < E
    pub place_is : get_or t (N + N + (x - first)) 0 + get_or t (N + N + E + (y - second)) 0
        ≡ position_of n v (lower k (monomial_at n v q))
    pub place_small : position_of n v (lower k (monomial_at n v q)) < 65536

  pub found : {x y : ℕ} → x ≡ get_or t (q - 1) 0 → y ≡ get_or t (N + (q - 1)) 0 → Found x y
  found {x} {y} ex ey =
      record {
        first_above = omega (arith, ex, first_code);
        second_above = omega (arith, ey, second-code);
        first_in = omega (arith, xe, c1-small, r.E_is);
        second_in = omega (arith, ye, c2-small, r.E_is);
        place_is = ap₂ (λ (a b : ℕ). get_or t (N + N + a) 0 + get_or t (N + N + E + b) 0) xe ye
            ∙ ap₂ ◌+◌ at_first at_second
            ∙ p.by_codes
            ∙ sym p.at;
        place_small =
            omega (arith, p.at, p.inside, length-monomials n v, right.allowed.few);
      }
    where
      p : Stands n v (lower k m)
      p = placed_lowered n v k q low q_high positive

      xe : x - first ≡ c1
      xe = omega (arith, ex, first_code)

      ye : y - second ≡ c2
      ye = omega (arith, ey, second-code)
