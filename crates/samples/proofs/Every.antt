-- Every starred sample holds: the definitions that the contracts cite are computed on its words. An
-- inverse is the one undoing map among all origin-fixing maps, too many to go through. Computed of an
-- inversion row is that both maps pass the checks and that f with g inner is the identity map; then g
-- is the inverse (inversion, proofs/Closing).
use Rattle.std.proofs.Common.{◌≡◌, refl, sym, ◌∙◌, Bool, true, List, [], ℕ, arith, take, drop}
use Rattle.algebra.specs.Sum.{sum_over}
use Rattle.algebra.specs.Polynomial.{◌⊕◌, order, exponent, trim_cons, trim, equal, same, indicator, weigh}
use Rattle.algebra.specs.Polynomial.{coefficient_of, constant, scale, times_term, mul, power, lower, derivative}
use Rattle.algebra.specs.Polynomial.{difference, add_below, pair_bracket, bracket}
use Rattle.algebra.specs.Substitution.{monomial_product, extend, substitute, compose, unit_of, variable}
use Rattle.residue.specs.Modulus.{modulus}
use Rattle.linear.specs.Matrix.{range, square}
use Rattle.linear.specs.Determinant.{determinant, signed, taken, exchanges, below, choices, each_first}
use Rattle.monomial.specs.Count.{count, factorial, codes, words, allowed}
use Rattle.monomial.specs.Difference.{first_difference}
use Rattle.monomial.specs.Enumeration.{upto, only, tabulate, first_position}
use Rattle.monomial.specs.Table.{digits, digit_sum, hit, of_order, block, monomial_of, monomials_of, monomials, position_of}
use Rattle.monomial.specs.Table.{code, C1, C2, D1, D2, table_words}
use Rattle.answer.specs.declared.Setting.{Setting}
use Rattle.answer.specs.Refusals.{passed}
use Rattle.answer.specs.Checks.{setting_check, table_check}
use Rattle.answer.specs.Sizes.{series_words, map_words, work_words}
use Rattle.series.specs.Image.{entries, monomial_at, term_of, polynomial, component, map_of, entry_of}
use Rattle.series.specs.Image.{packed, image_of, image, map_image, pair_count}
use Rattle.series.specs.Faults.{entry_is_good, word_is_good, fault_from, first_fault, series_check}
use Rattle.series.specs.Faults.{any_is_one, has_constant}
use Rattle.series.specs.Arguments.{argument_check, constants_check, map_check, constant_check}
use Rattle.inversion.specs.Linear.{linear_part, determinant_of, singular_check}
use Rattle.inversion.specs.Undoing.{composed}
use Rattle.inversion.proofs.Closing.{before-is_inverse}
use Rattle.checks.specs.Settings.{prime_of, identity_in, bracket_in, inverse_in}
use Rattle.checks.specs.Room.{slices_check, room}
use Rattle.checks.specs.Inputs.{images, inputs, constants, singular}
use Rattle.checks.specs.Calls.{invert_checks, invert_call}
use Rattle.checks.proofs.RoomLaws.{room-passed}
use Rattle.samples.specs.Rows.{rows, every, holds}

-- opens every definition between words and numbers
unfoldable computing : Bool
unfolding sum_over ◌⊕◌ order exponent trim_cons trim equal same indicator weigh coefficient_of constant scale
    times_term mul power lower derivative difference add_below pair_bracket bracket monomial_product extend
    substitute compose unit_of variable range square determinant signed taken exchanges below choices
    each_first modulus count factorial codes upto only digits digit_sum hit of_order block monomial_of
    monomials_of monomials first_position position_of entries monomial_at term_of polynomial component map_of
    entry_of packed image_of image map_image pair_count rows linear_part determinant_of singular_check composed
    allowed map_words argument_check series_check first_fault fault_from word_is_good entry_is_good constants_check
    has_constant any_is_one prime_of bracket_in words code C1 C2 D1 D2 tabulate table_words first_difference
    setting_check table_check series_words work_words slices_check room images inputs constants singular
    invert_checks invert_call
computing = true

-- ---- inversion

-- what is computed of an inversion row, and that g is the inverse then
module _ (s : Setting) (f g : List ℕ) (in_range : room s [] ≡ passed)
    (f-images : map_check (prime_of s) s.n s.v 1 f ≡ passed) (f-fixes : constant_check s.n s.v f ≡ passed)
    (g-images : map_check (prime_of s) s.n s.v 2 g ≡ passed) (g-fixes : constant_check s.n s.v g ≡ passed)
    (g-whole : take (map_words s.n s.v) g ≡ g)
    (identical : composed (prime_of s) s.n s.v f g ≡ identity_in s) where
  inverse-is : inverse_in s f ≡ g
  unfolding inverse_in
  inverse-is =
      let r = room-passed s [] in_range in
      sym
      (before-is_inverse r.prime (omega (arith, r.prime_high)) s.n s.v r.allowed
      1 f f-images f-fixes 2 g g-images g-fixes identical).0
      ∙ g-whole

-- rows 11 to 14
inversion-rows : every holds (drop 10 rows)
unfolding computing
inversion-rows = (
  (refl, refl, inverse-is _ _ _ refl refl refl refl refl refl refl),
  (
    (refl, refl, inverse-is _ _ _ refl refl refl refl refl refl refl),
    (
      refl,
      ((refl, refl, inverse-is _ _ _ refl refl refl refl refl refl refl), tt),
    ),
  ),
)

-- ---- all rows

-- rows 5 to 10
operation_rows : every holds (drop 4 rows)
unfolding computing
operation_rows = ((refl, refl), ((refl, refl), ((refl, refl), (refl, (refl, (refl, inversion-rows))))))

pub every-row : every holds rows
unfolding computing
every-row = (refl, (refl, (refl, (refl, operation_rows))))
