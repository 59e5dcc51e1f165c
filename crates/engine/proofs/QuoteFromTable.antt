-- The quote, and the pairs of the front, from the table of best values.
use Rattle.std.proofs.Common.{◌≡◌, ℕ, ◌<◌, ◌≤◌, List, length, Some, Option, sym, ◌∙◌, subst, arith}
use Rattle.netmap.specs.Net.{Net, Sound}
use Rattle.segments.specs.Algebra.{Algebra, Laws, AsGood}
use Rattle.segments.specs.declared.figures.Figures.{Figures}
use Rattle.segments.specs.declared.order.Order.{Order}
use Rattle.segments.specs.declared.figures.Leg.{Leg}
use Rattle.segments.specs.Segments.{list_value, list_delay, list_grains}
use Rattle.engine.specs.Quotes.{Quoted}
use Rattle.engine.specs.Fronts.{Had, most_grains_of}
use Rattle.engine.specs.Cells.{Listed, Cell, Row}
use Rattle.engine.proofs.CellExtended.{found}
use Rattle.engine.specs.Rebuilds.{Rebuilt}
use Rattle.engine.proofs.RebuiltMade.{rebuilt_made}
use Rattle.engine.specs.Chosen.{Chosen}
use Rattle.engine.proofs.ChosenFirst.{listed_within, within_listed, within_grains, rebuilt_precedes}
use Rattle.engine.proofs.FrontCovered.{Covers}

module _ {V : Type 0} (net : Net) (alg : Algebra V) (lawful : Laws alg) (sound : Sound net) (o : Order) (node : o.source < net.nodes) (one : 0 < o.grain.0) (best : ℕ → ℕ → ℕ → Option V)
    (good : (l : ℕ) → l ≤ o.limit.0 → Row net alg o.grain.0 o.target (most_grains_of o) l (best l)) where
  pub quoted : (x : V) (d l : ℕ) (cs : List ℕ) (hs : List (Leg V)) (q : Figures V)
      → Chosen net alg o best x d l → Rebuilt net alg o.grain.0 x best alg.neutral d o.source l cs hs
      → q.value ≡ x → q.grains.0 ≡ d → q.delay.0 ≡ list_delay hs → q.labels.0 ≡ l
      → Quoted net alg o cs q
  quoted x d l cs hs q chosen r qv qg qm qc =
      let m = rebuilt_made net alg o.grain.0 lawful sound o.target (most_grains_of o) o.limit.0 best good x alg.neutral d o.source l x cs hs chosen.labels chosen.small node chosen.cell (lawful.neutral_left x) r in
      let value : list_value alg hs ≡ x = sym (lawful.neutral_left (list_value alg hs)) ∙ m.value in
      let listed : Listed net alg o.grain.0 o.target l d o.source x = record { codes = cs; legs = hs; legal = m.legal; ends = m.ends; count = m.count; grains = m.grains; value = value } in
      record {
        legs = hs;
        first = record {
          within = listed_within net alg o l d x one chosen.labels chosen.small listed;
          first = rebuilt_precedes net alg o lawful sound node one best good x d l chosen cs hs r m.legal m.ends m.count m.grains value;
        };
        value = qv ∙ sym value;
        grains = qg ∙ sym m.grains;
        delay = qm;
        labels = qc ∙ sym m.count;
      }

  -- a cell at the source, as a pair
  pub record Offered (d : ℕ) (x : V) : Type 0 where
    pub entries : ℕ
    pub labels : entries ≤ o.limit.0
    pub small : d ≤ most_grains_of o
    pub cell : best entries d o.source ≡ Some x

  -- the offers cover what the lists within the order have
  pub offers_cover : Covers alg (Had net alg o) Offered
  offers_cover = record {
    inside = λ d x f.
        let k = (subst (Cell net alg o.grain.0 o.target f.entries d o.source) f.cell (good f.entries f.labels d o.source f.small node)).0 in
        record { codes = k.codes; legs = k.legs; within = listed_within net alg o f.entries d x one f.labels f.small k; grains = k.grains; value = k.value };
    covered = λ d x h.
        let g = list_grains o.grain.0 h.legs in
        let m = length h.codes in
        let w = h.within in
        let small = within_grains net alg o h.codes h.legs one w in
        let f = found net alg o.grain.0 o.target m g o.source (best m g o.source) (list_value alg h.legs) (good m w.serves.labels g o.source small node) (within_listed net alg o h.codes h.legs w) in
        (g, f.0, record { entries = m; labels = w.serves.labels; small = small; cell = f.1 }, omega (arith, h.grains), subst (AsGood alg f.0) h.value f.2);
  }
