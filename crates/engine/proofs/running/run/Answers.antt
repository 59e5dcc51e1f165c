use Rattle.std.proofs.Common.{get_or, refl, ◌∙◌, subst}
use Rattle.segments.specs.Algebra.{algebra}
use Rattle.engine.specs.declared.checks.Room.{Room}
use Rattle.engine.specs.Calls.{room_in}
use Rattle.engine.specs.Runs.{Answers}
use Rattle.engine.proofs.RunExtended.{runs_more}
use Rattle.engine.proofs.running.run.Goals as goal

pub loop-step-preserved : goal.loop-step-preserved
loop-step-preserved g c =
    let alg = algebra g.V.Ranking.good g.V.Tariff.joining in
    let l = c.loop-step in
    let p = c.perform in
    let s = get_or l.steps l.step-index c.step-item.result in
    let room = room_in c.args.work.now in
    let told = subst (λ (r : Room). Answers alg r (g.M.Map.meaning l.map) s.call s p.new.step) l.invariant.2.room p.ensures.answers in
    let more = runs_more alg room (g.M.Map.meaning c.args.map.now) (g.M.Map.meaning l.map) (g.M.Map.meaning p.new.map) c.args.steps.now l.steps l.step-index c.step-item.result s p.new.step
    c.loop-step-test.true l.auto.steps refl l.invariant.0 l.invariant.1 p.ensures.kept told p.ensures.leaves in
    let is = p.ensures.same in
    let was = l.invariant.2 in
    (more.0, more.1, record { dist = is.dist ∙ was.dist; spread = is.spread ∙ was.spread; table = is.table ∙ was.table; room = is.room ∙ was.room })
