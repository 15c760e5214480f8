-- The examples of 01's table of refusals, computed from the definitions of the checks.
use Rattle.std.proofs.Common.{◌≡◌, refl, [], ◌∷◌}
use Rattle.monomial.specs.Count.{count, factorial, words, codes, allowed}
use Rattle.monomial.specs.Enumeration.{upto, only, tabulate, first_position}
use Rattle.monomial.specs.Table.{digits, digit_sum, code, hit, of_order, block, monomial_of, monomials_of, monomials, C1, C2, D1, D2, table_words}
use Rattle.monomial.specs.Difference.{first_difference}
use Rattle.answer.specs.Sizes.{work_words}
use Rattle.answer.specs.declared.Refusal.TheVariants.{SettingOutOfRange, SliceTooShort, VariableOutOfRange, OddVariables}
use Rattle.answer.specs.declared.Refusal.TheVariants.{MultiplierOutOfRange, TableDiffers, NotAnImage, HasConstant, Singular, Malformed}
use Rattle.answer.specs.Refusals.{number, place, passed, declined}
use Rattle.answer.specs.Checks.{setting_check, variable_check, even_check, multiplier_check, table_check, first_of}

-- the ten numbers, and the places: three numbers for 7, one for any other
numbers :
    number SettingOutOfRange ∷ number (SliceTooShort 3) ∷ number VariableOutOfRange ∷ number OddVariables
    ∷ number MultiplierOutOfRange ∷ number (TableDiffers 13) ∷ number (NotAnImage 1 2 3) ∷ number (HasConstant 4)
    ∷ number Singular ∷ number Malformed ∷ []
    ≡ 1 ∷ 2 ∷ 3 ∷ 4 ∷ 5 ∷ 6 ∷ 7 ∷ 8 ∷ 9 ∷ 10 ∷ []
numbers = refl

places :
    place SettingOutOfRange ∷ place (SliceTooShort 3) ∷ place VariableOutOfRange ∷ place OddVariables
    ∷ place MultiplierOutOfRange ∷ place (TableDiffers 13) ∷ place (NotAnImage 1 2 3) ∷ place (HasConstant 4)
    ∷ place Singular ∷ place Malformed ∷ []
    ≡ (0 ∷ []) ∷ (3 ∷ []) ∷ (0 ∷ []) ∷ (0 ∷ []) ∷ (0 ∷ []) ∷ (13 ∷ []) ∷ (1 ∷ 2 ∷ 3 ∷ []) ∷ (4 ∷ []) ∷ (0 ∷ []) ∷ (0 ∷ []) ∷ []
places = refl

-- 1: n 10, v 6 is taken, n 10, v 7 is not; neither are 0 and 11, 0 and 9
settings :
    setting_check 10 6 ∷ setting_check 10 7 ∷ setting_check 0 2 ∷ setting_check 11 1 ∷ setting_check 2 0 ∷ setting_check 1 9 ∷ []
    ≡ passed ∷ declined 1 (0 ∷ []) ∷ declined 1 (0 ∷ []) ∷ declined 1 (0 ∷ []) ∷ declined 1 (0 ∷ []) ∷ declined 1 (0 ∷ []) ∷ []
unfolding setting_check allowed count factorial
settings = refl

-- 3: the derivative in x3 with v 2; x0 is no variable either
variables : variable_check 2 3 ∷ variable_check 2 0 ∷ variable_check 2 2 ∷ [] ≡ declined 3 (0 ∷ []) ∷ declined 3 (0 ∷ []) ∷ passed ∷ []
unfolding variable_check
variables = refl

-- 4: a bracket with v 3
evens : even_check 3 ∷ even_check 4 ∷ [] ≡ declined 4 (0 ∷ []) ∷ passed ∷ []
unfolding even_check
evens = refl

-- 5: c = 65,521 with p = 65,521
multipliers : multiplier_check 65521 65521 ∷ multiplier_check 65521 65520 ∷ [] ≡ declined 5 (0 ∷ []) ∷ passed ∷ []
unfolding multiplier_check
multipliers = refl

-- 6: n 2, v 2, words 13 and 14 exchanged; a word beyond the table is not looked at
tables :
    table_check 2 2 (0 ∷ 1 ∷ 2 ∷ 0 ∷ 1 ∷ 0 ∷ 0 ∷ 0 ∷ 0 ∷ 1 ∷ 1 ∷ 2 ∷ 1 ∷ 3 ∷ 2 ∷ 0 ∷ 3 ∷ 5 ∷ [])
    ∷ table_check 2 2 (0 ∷ 1 ∷ 2 ∷ 0 ∷ 1 ∷ 0 ∷ 0 ∷ 0 ∷ 0 ∷ 1 ∷ 1 ∷ 2 ∷ 1 ∷ 2 ∷ 3 ∷ 0 ∷ 3 ∷ 5 ∷ 9 ∷ []) ∷ []
    ≡ declined 6 (13 ∷ []) ∷ passed ∷ []
unfolding table_check first_difference words count factorial table_words codes C1 C2 D1 D2 code tabulate first_position monomials monomials_of monomial_of block of_order hit only upto digits digit_sum
tables = refl

-- checks run in ascending number: the first that declines decides
ascending : first_of (passed ∷ declined 2 (4 ∷ []) ∷ declined 6 (13 ∷ []) ∷ []) ≡ declined 2 (4 ∷ [])
ascending = refl

-- W for n 10, v 6 and for n 1, v 1
works : work_words 10 6 ∷ work_words 1 1 ∷ [] ≡ 208306 ∷ 23 ∷ []
unfolding work_words count factorial
works = refl
