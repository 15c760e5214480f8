-- What is to be believed of substitution on checked inputs. Read in this order.
pub mod Setup
pub mod Parts
pub mod Core
