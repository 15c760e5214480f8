-- What is to be believed of inversion on checked inputs. Read in this order.
pub mod Core
-- What one turn asks and leaves.
pub mod Turning
