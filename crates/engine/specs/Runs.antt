-- The law of runs: any sequence of calls on an open map.
use Rattle.std.specs.Prelude.{◌≡◌, ℕ, List, [], ◌∷◌, vec_items, Some, Result}
use Rattle.questions.specs.declared.denial.Denial.{Denial}
use Rattle.netmap.specs.Net.{Net}
use Rattle.netmap.specs.Changes.{put_reply, after_put, remove_reply, after_remove}
use Rattle.segments.specs.Algebra.{Algebra}
use Rattle.engine.specs.declared.running.Call.{Call}
use Rattle.engine.specs.declared.running.Call.TheVariants as call
use Rattle.engine.specs.declared.running.Reply.TheVariants as reply
use Rattle.segments.specs.declared.figures.Figures.{Figures}
use Rattle.engine.specs.declared.running.Step.{Step}
use Rattle.engine.specs.declared.checks.Room.{Room}
use Rattle.engine.specs.Calls.{QuoteCall, FrontCall}

-- the net that a call leaves: a granted put or remove changes one place, and all else leaves it
abbrev pub after : Net → Call → Net
after net (call.Put p l) = after_put net p l
after net (call.Remove p) = after_remove net p
after net (call.Quote o) = net
after net (call.Front o) = net

module _ {V : Type 0} (alg : Algebra V) (room : Room) where
  -- what a call on a net replies, and what it leaves in its list space and its front slots
  abbrev pub Answers : Net → Call → Step V → Step V → Type 0
  Answers net (call.Put p l) s t =
      (t.reply ≡ Some (reply.Changed (put_reply net p l))) × (vec_items t.list ≡ vec_items s.list) × (vec_items t.slots ≡ vec_items s.slots)
  Answers net (call.Remove p) s t =
      (t.reply ≡ Some (reply.Changed (remove_reply net p))) × (vec_items t.list ≡ vec_items s.list) × (vec_items t.slots ≡ vec_items s.slots)
  Answers net (call.Quote o) s t =
      (r : Result (Figures V) Denial) × (t.reply ≡ Some (reply.Quoted r)) × QuoteCall net alg o room (vec_items s.list) (vec_items t.list) r × (vec_items t.slots ≡ vec_items s.slots)
  Answers net (call.Front o) s t =
      (r : Result ℕ Denial) × (t.reply ≡ Some (reply.Front r)) × FrontCall net alg o room (vec_items s.slots) (vec_items t.slots) r × (vec_items t.list ≡ vec_items s.list)

  -- each call answers of the net that the calls before it leave, and the last net is the end
  abbrev pub Runs : Net → List (Step V) → List (Step V) → Net → Type 0
  Runs net [] [] end = end ≡ net
  Runs net [] (t ∷ ts) end = ⊥
  Runs net (s ∷ ss) [] end = ⊥
  Runs net (s ∷ ss) (t ∷ ts) end = (t.call ≡ s.call) × Answers net s.call s t × Runs (after net s.call) ss ts end
