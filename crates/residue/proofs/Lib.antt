-- Modular    laws of remainders, for any modulus
-- Inverses   modulo a prime, every number but 0 has exactly one inverse, and no product of two
--            others is 0
-- Primality  trial division, and that the modulus is the largest prime below 65,536
pub mod Modular
pub mod Inverses
pub mod Primality
