-- Numbers that are passed on to a write.
use Rattle.std.proofs.Common.{◌≡◌, ℤ, ap, ◌∙◌, w64, SFits, to_z, of_z}
use Rattle.std.proofs.lemmas.Int.{to_z-of_z}
use Rattle.rules.specs.Rules.{Call, write}

pub write_passed : (s k t : ℤ) → SFits w64 s → SFits w64 k → SFits w64 t → ◌≡◌ {A = Call} (write (to_z w64 (of_z w64 s)) (to_z w64 (of_z w64 k)) (to_z w64 (of_z w64 t))) (write s k t)
write_passed s k t fits_s fits_k fits_t =
    ap (λ x. write x (to_z w64 (of_z w64 k)) (to_z w64 (of_z w64 t))) (to_z-of_z w64 s fits_s)
    ∙ ap (λ x. write s x (to_z w64 (of_z w64 t))) (to_z-of_z w64 k fits_k)
    ∙ ap (write s k) (to_z-of_z w64 t fits_t)
