use Rattle.std.proofs.Common.{◌<◌, sym, ◌∙◌, subst, arith, below_more}
use Rattle.std.proofs.lemmas.Result.{err_from_is_err_and}
use Rattle.questions.specs.Asking.{first_no}
use Rattle.netmap.specs.Reading.{two_at, field_questions}
use Rattle.questions.proofs.Asking.{granted, denied}
use Rattle.netmap.proofs.Decoding.{passed_images}
use Rattle.netmap.proofs.Examining.{as_asked, all_passed, image_granted, image_denied}
use Rattle.netmap.proofs.fields.examine.Goals as goal

pub returns-in_err-check_fields : goal.returns-in_err-check_fields
returns-in_err-check_fields c =
    let bs = c.args.bytes.now in
    let s = c.in_ok-sizes.sizes in
    let h = c.in_ok-sizes.ensures in
    let k = c.loop-place.place in
    let x = c.in_err-check_fields.field-0.0 in
    let l = c.read_link.result in
    let asked = as_asked bs s.nodes s.places k l h.1 h.2 c.read_link.ensures in
    let lt : k < two_at bs 2 = subst (λ m. k < m) h.2 c.loop-place-test.true in
    let d = denied (first_no (field_questions s.nodes l k)) x tt c.in_err-check_fields.ensures in
    let out = err_from_is_err_and c.from_residual-in_err-check_fields.result c.from_residual-in_err-check_fields.ensures.1 in
    rw (out.1, out.2) (image_denied bs k x h.0 c.loop-place.invariant lt (sym asked ∙ d))

pub loop-place-preserved : goal.loop-place-preserved
loop-place-preserved c =
    let bs = c.args.bytes.now in
    let s = c.in_ok-sizes.sizes in
    let h = c.in_ok-sizes.ensures in
    let k = c.loop-place.place in
    let l = c.read_link.result in
    let asked = as_asked bs s.nodes s.places k l h.1 h.2 c.read_link.ensures in
    below_more _ _ c.loop-place.invariant (sym asked ∙ granted (first_no (field_questions s.nodes l k)) tt tt c.in_ok-check_fields.ensures)

pub returns : goal.returns
returns c =
    let bs = c.args.bytes.now in
    let s = c.in_ok-sizes.sizes in
    let h = c.in_ok-sizes.ensures in (
      image_granted bs h.0 (λ k lt. c.loop-place.invariant k (omega (arith, c.loop-place-test.false, h.2))),
      passed_images bs s.nodes s.places (all_passed bs s.nodes s.places (λ i. omega (arith, (c.type_inv.bytes i).fits)) h.1 h.2 h.0 (λ k lt. c.loop-place.invariant k (omega (arith, c.loop-place-test.false)))),
    )
