-- The text of a walk under the cost tariff, for the person who asks what a list does.
use Rattle.std.specs.Prelude.{◌≡◌, ℕ, List, Some, None, Ok, Err, decimal, Option, Result}
use Rattle.questions.specs.declared.denial.Denial.{Denial}
use Rattle.questions.specs.Denials.{refusal}
use Rattle.netmap.specs.Layout.{Images}
use Rattle.netmap.specs.Net.{Net}
use Rattle.netmap.specs.Reading.{image_denial}
use Rattle.questions.specs.Lines.{spaced, line}
use Rattle.tariff.specs.Costs.{cheaper, costs}
use Rattle.tariff.specs.declared.cost.Cost.{Cost}
use Rattle.segments.specs.declared.figures.Spread.{Spread}
use Rattle.segments.specs.declared.figures.Walk.{Walk}
use Rattle.segments.specs.Algebra.{algebra}
use Rattle.segments.specs.Walks.{WalkCall}

-- end, value, grains, microseconds and entries
abbrev pub walk_line : Walk Cost → List ℕ
walk_line w = spaced (decimal w.end) (spaced (decimal w.figures.value.weight) (spaced (decimal w.figures.grains.0) (spaced (decimal w.figures.delay.0) (line (decimal w.figures.labels.0)))))

abbrev pub reply_line : Result (Walk Cost) Denial → List ℕ
reply_line (Ok w) = walk_line w
reply_line (Err d) = line (refusal d)

module _ (source grain : ℕ) (cs : List ℕ) (dist dist_after : List (Option ℕ)) (spread spread_after : List (Option (Spread Cost))) where
  -- the text of what a walk over the network replies
  pub record WalkReports (net : Net) (text : List ℕ) : Type 0 where
    pub reply : Result (Walk Cost) Denial
    pub walked : WalkCall net (algebra cheaper costs) source grain cs dist dist_after spread spread_after reply
    pub said : text ≡ reply_line reply

  abbrev pub ReportsBy : Option Denial → List ℕ → List ℕ → Type 0
  ReportsBy (Some d) bs text = text ≡ line (refusal d)
  ReportsBy None bs text = (net : Net) × Images bs net × WalkReports net text

  -- the refusal of the bytes, or of the walk over the network whose image they are, or that walk
  abbrev pub Reports : List ℕ → List ℕ → Type 0
  Reports bs text = ReportsBy (image_denial bs) bs text
