-- Every answer of the C interface tells the whole outcome: for every setting and all slices the numbers of a refusal,
-- and the number that a product reports, fit their bits, so that a caller reads off exactly what the kernel answered.
use Rattle.std.proofs.Common.{◌≡◌, List, ℕ, ◌≤◌, ◌<◌, arith, length}
use Rattle.monomial.specs.Count.{count}
use Rattle.answer.specs.declared.Setting.{Setting}
use Rattle.answer.specs.Refusals.{passed}
use Rattle.series.specs.Image.{entries, polynomial, pair_count}
use Rattle.series.proofs.Series.{fault_none_to_series, length-entries}
use Rattle.product.proofs.PairSums.{pairs_within-is}
use Rattle.product.proofs.AddRows.{pairs_within-few}
use Rattle.checks.specs.Settings.{prime_of, series_in}
use Rattle.checks.specs.Calls.{build_checks, build_call, check_checks, check_call}
use Rattle.checks.specs.Calls.{sum_checks, sum_call, difference_call, multiple_checks, multiple_call}
use Rattle.checks.specs.Calls.{product_checks, product_call, derivative_checks, derivative_call, bracket_checks, bracket_call}
use Rattle.checks.specs.Calls.{substitute_checks, substitute_call, compose_checks, compose_call, invert_checks, invert_call}
use Rattle.products.proofs.ProductCall.{product-passed}
use Rattle.encoding.specs.Encoding.{Told}
use Rattle.encoding.proofs.Fits.{Fits, fits_passed, both, last, tells, tells_nothing}
use Rattle.encoding.proofs.CheckFits.{room_fits, variable-fits, even_fits, multiplier_fits}
use Rattle.encoding.proofs.CheckFits.{images-fit, inputs-fit, constants-fit, singular-fits}

-- ---- tables

pub build_tells : (s : Setting) (table : List ℕ) → Told (build_call s table)
unfolding build_call build_checks
build_tells s table = tells_nothing (room_fits s _ (omega arith) (λ g. fits_passed))

pub check_tells : (s : Setting) (t : List ℕ) → Told (check_call s t)
unfolding check_call check_checks
check_tells s t =
    tells_nothing (room_fits s _ (omega arith) (λ g. last (inputs-fit s g.allowed t _ (omega arith))))

-- ---- sums

module _ (s : Setting) (a b result : List ℕ) where
  sum_fits : Fits (sum_checks s a b (length result))
  unfolding sum_checks
  sum_fits = room_fits s _ (omega arith) (λ g. last (images-fit s g.allowed 1 _ (omega arith)))

  pub sum_tells : Told (sum_call s a b result)
  unfolding sum_call
  sum_tells = tells_nothing sum_fits

  pub difference-tells : Told (difference_call s a b result)
  unfolding difference_call
  difference-tells = tells_nothing sum_fits

pub multiple_tells : (s : Setting) (c : ℕ) (a result : List ℕ) → Told (multiple_call s c a result)
unfolding multiple_call multiple_checks
multiple_tells s c a result =
    tells_nothing (room_fits s _ (omega arith) (λ g.
    both (multiplier_fits (prime_of s) c) (last (images-fit s g.allowed 1 _ (omega arith)))))

-- ---- products

module _ (s : Setting) (t a b result work : List ℕ) where
  product-fits : Fits (product_checks s t a b (length result) (length work))
  unfolding product_checks
  product-fits = room_fits s _ (omega arith) (λ g. last (inputs-fit s g.allowed t _ (omega arith)))

  -- where the checks pass each factor has at most 8,008 entries
  pairs_few : product_checks s t a b (length result) (length work) ≡ passed
      → pair_count s.n (series_in s a) (series_in s b) < 1099511627776
  unfolding polynomial
  pairs_few e =
      let q = product-passed s t a b (length result) (length work) e in
      let N = count s.n s.v in
      let x = fault_none_to_series (prime_of s) N a q.first.good q.first.long in
      let y = fault_none_to_series (prime_of s) N b q.second.good q.second.long in
      let few : N ≤ 8008 = q.right.allowed.few in
      let l : length (entries a) ≤ 8008 = omega (arith, length-entries (prime_of s) N x) in
      let m : length (entries b) ≤ 8008 = omega (arith, length-entries (prime_of s) N y) in
      omega (
        arith,
        pairs_within-is s.n s.v (entries a) (entries b),
        pairs_within-few s.n s.v s.n (entries b) (entries a) 8008 m,
      )

  pub product-tells : Told (product_call s t a b result work)
  unfolding product_call
  product-tells = tells product-fits _ pairs_few

  pub bracket-tells : Told (bracket_call s t a b result work)
  unfolding bracket_call bracket_checks
  bracket-tells =
      tells_nothing (room_fits s _ (omega arith) (λ g.
      both (even_fits s.v) (last (inputs-fit s g.allowed t _ (omega arith)))))

pub derivative-tells : (s : Setting) (k : ℕ) (t a result : List ℕ) → Told (derivative_call s k t a result)
unfolding derivative_call derivative_checks
derivative-tells s k t a result =
    tells_nothing (room_fits s _ (omega arith) (λ g.
    both (variable-fits s.v k) (last (inputs-fit s g.allowed t _ (omega arith)))))

-- ---- maps

pub substitute-tells : (s : Setting) (t a f result work : List ℕ) → Told (substitute_call s t a f result work)
unfolding substitute_call substitute_checks
substitute-tells s t a f result work =
    tells_nothing (room_fits s _ (omega arith) (λ g.
    both (inputs-fit s g.allowed t _ (omega arith)) (last (constants-fit s g.allowed f))))

pub compose-tells : (s : Setting) (t outer inner result work : List ℕ) → Told (compose_call s t outer inner result work)
unfolding compose_call compose_checks
compose-tells s t outer inner result work =
    tells_nothing (room_fits s _ (omega arith) (λ g.
    both (inputs-fit s g.allowed t _ (omega arith)) (last (constants-fit s g.allowed inner))))

pub invert_tells : (s : Setting) (t f result work : List ℕ) → Told (invert_call s t f result work)
unfolding invert_call invert_checks
invert_tells s t f result work =
    tells_nothing (room_fits s _ (omega arith) (λ g.
    both (inputs-fit s g.allowed t _ (omega arith))
    (both (constants-fit s g.allowed f) (last (singular-fits s f)))))
