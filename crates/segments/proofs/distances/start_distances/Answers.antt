use Rattle.std.proofs.Common.{◌≡◌, ◌+◌, ◌*◌, ◌/◌, ◌%◌, ◌<◌, length, set, Some, None, sym, ap, ◌∙◌, subst, ⊎_elim, arith, rules, get_or-set_other, get_or-set_same}
use lib.Arith.{digits_div, digits_mod}
use Rattle.std.proofs.lemmas.Bool.{cases_eq}
use Rattle.segments.specs.Distances.{table_of}
use Rattle.segments.proofs.distances.start_distances.Goals as goal

pub loop-u-preserved : goal.loop-u-preserved
loop-u-preserved c =
    let n = c.args.n in
    let xs = c.loop-u.dist in
    let u = c.loop-u.u in
    let nu = c.loop-u-test.true in
    let i = u * n + u in
    let within : i < length xs = search rules in (
      λ a h. ⊎_elim
          (λ (e : a ≡ u). subst (λ m. table_of n (set xs i (Some 0)) m m ≡ Some 0) (sym e) (get_or-set_same xs i (Some 0) None within))
          (λ (ne : a ≡ u → ⊥).
          let na : a < n = omega arith in
          get_or-set_other xs i (a * n + a) (Some 0) None (λ z. ne (sym (digits_div a na) ∙ ap (λ m. m / n) z ∙ digits_div u nu)) ∙ c.loop-u.invariant.0 a (omega arith))
          (cases_eq a u),
      λ a b na nb ne.
          get_or-set_other xs i (a * n + b) (Some 0) None
          (λ z. ne (sym (digits_div a nb) ∙ ap (λ m. m / n) z ∙ digits_div u nu ∙ sym (sym (digits_mod a nb) ∙ ap (λ m. m % n) z ∙ digits_mod u nu)))
          ∙ c.loop-u.invariant.1 a b na nb ne,
    )
