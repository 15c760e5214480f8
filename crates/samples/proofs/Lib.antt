-- Every row holds, computed from the definitions.
pub mod Every
