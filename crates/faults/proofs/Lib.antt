-- Of the functions:
-- CodeArguments  refusal 7 found by loops over arguments, components and words
-- CodeQuick      an image, seen in one pass
-- CodeConstants  refusal 8 found by a loop over components
pub mod CodeArguments
pub mod CodeQuick
pub mod CodeConstants
