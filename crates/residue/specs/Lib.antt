pub mod Modulus
