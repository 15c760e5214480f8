-- Term 3 of substitution: of the words that the calls write, and of the calls.
--
-- Words:
--   Substituting      a map and then another substituted; a map into a sum, and into a product
-- The laws:
--   TwiceLaw          `substitute_twice`
--   RespectLaw        `substitute_sum` and `substitute_product`
-- The code:
--   Steps             the calls that a function makes are those of its law
pub mod Substituting
pub mod TwiceLaw
pub mod RespectLaw
pub mod Steps
