-- The limits of an admitted strip, in and out.
use mathlib.Core.Path.{◌≡◌}
use mathlib.Core.Bool.{true}
use Prim.Native.Nat.{ℕ, ◌^◌, ◌≤◌}
use lib.Dec.{leb}
use borrow.Author.Tests.{leb-true, le-leb}
use Rattle.theory.specs.Strips.{admitted}
use Rattle.theory.proofs.Base.{and_l, and_r, and_in}
use Rattle.shape.specs.declared.Strip as DS

pub record Limits (k n : ℕ) : Type 0 where
  pub two : 2 ≤ k
  pub most : k ≤ 36
  pub some : 1 ≤ n
  pub short : n ≤ 60
  pub range : k ^ n ≤ 2 ^ 60

pub admitted_limits : (k n : ℕ) → admitted k n ≡ true → Limits k n
admitted_limits k n a =
    let b = and_r (leb 2 k) _ a in
    let c = and_r (leb k 36) _ b in
    let d = and_r (leb 1 n) _ c in
    record {
      two = leb-true 2 k (and_l _ _ a);
      most = leb-true k 36 (and_l _ _ b);
      some = leb-true 1 n (and_l _ _ c);
      short = leb-true n 60 (and_l _ _ d);
      range = leb-true (k ^ n) (2 ^ 60) (and_r (leb n 60) _ d);
    }

pub limits_admit : (k n : ℕ) → Limits k n → admitted k n ≡ true
limits_admit k n l =
    and_in (le-leb 2 k l.two) (and_in (le-leb k 36 l.most) (and_in (le-leb 1 n l.some) (and_in (le-leb n 60 l.short) (le-leb (k ^ n) (2 ^ 60) l.range))))

-- every strip keeps them
pub limits : (s : DS.Strip) → Limits s.k s.n
limits s = admitted_limits s.k s.n s.admit
