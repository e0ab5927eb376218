-- The two rings of k and n, by the lengths of their words: which are allowed, how many positions there are, and the letters from one of them on.
use Rattle.std.specs.Prelude.{Bool, List, ℕ, ◌^◌}
use Rattle.theory.specs.Rings.{ring, letter_on, letters_on}
use Rattle.theory.specs.Strips.{divisor_of}
use Rattle.theory.specs.Shorts.{whole, short_size}
use Rattle.shape.specs.declared.Strip as DS
use Rattle.shape.specs.declared.Lengths.{Lengths}
use Rattle.shape.specs.declared.Lengths.TheVariants.{Divisors, Whole}

abbrev pub ok_of : Lengths → ℕ → ℕ → Bool
ok_of Divisors = divisor_of
ok_of Whole = whole

abbrev pub size_of : Lengths → ℕ → ℕ → ℕ
size_of Divisors = ◌^◌
size_of Whole = short_size

-- the same of a strip as its constructor makes it
abbrev pub size_in : Lengths → DS.Strip → ℕ
size_in Divisors s = s.size
size_in Whole s = short_size s.k s.n

abbrev pub letter_of : Lengths → ℕ → ℕ → ℕ → ℕ
letter_of r k n p = letter_on (size_of r k n) (ring (ok_of r n) k n) p

abbrev pub letters_of : Lengths → ℕ → ℕ → ℕ → ℕ → List ℕ
letters_of r k n p c = letters_on (size_of r k n) (ring (ok_of r n) k n) p c
