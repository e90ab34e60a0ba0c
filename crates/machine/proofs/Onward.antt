-- T3 of a fetch stands apart from the other states from T3 on. Assumes nothing.
use Rattle.std.proofs.Common.{◌≡◌, ℕ, true, ◌&&◌, eqb, eqb→eq}
use Rattle.laws.proofs.Every.{and_left, and_right}
use Rattle.laws.proofs.Tests.{true→T}

-- the test of T3 of a fetch
pub fetch_third : (c s : ℕ) → eqb s 3 && eqb c 1 ≡ true → (s ≡ 3) × (c ≡ 1)
fetch_third c s e =
    let t = true→T (eqb s 3 && eqb c 1) e in
    (eqb→eq s 3 (and_left (eqb s 3) (eqb c 1) t), eqb→eq c 1 (and_right (eqb s 3) (eqb c 1) t))
