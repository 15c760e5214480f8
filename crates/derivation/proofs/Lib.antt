-- Theorems on the derivative.
pub mod DerivativeDigits
pub mod DerivativeOrder
pub mod DerivativeExponent
pub mod DerivativePlace
pub mod DerivativeSums
pub mod DerivativePacking
pub mod DerivativePacked
pub mod DerivativeImage
pub mod DerivativeBelow
