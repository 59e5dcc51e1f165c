-- What bytes hold once some of them are written.
use Rattle.std.proofs.lemmas.Grind.{common_steps}
use Rattle.std.proofs.Common.{◌≡◌, ℕ, ◌+◌, ◌<◌, ◌≤◌, List, ◌++◌, length, get_or, set, None, Option, sym, ap, ◌∙◌, subst, inl, inr, ⊎_elim, arith, length-set}
use Rattle.std.proofs.lemmas.Bool.{cases_lt}
use Rattle.netmap.specs.declared.link.Link.{Link}
use Rattle.netmap.specs.Changes.{with_place}
use Rattle.netmap.specs.Layout.{two_bytes, encode, image_size}
use Rattle.netmap.specs.Net.{Fit, Net, Sound, places, link_at}
use Rattle.netmap.specs.Reading.{decode, ends_at, figures_at}
use Rattle.netmap.specs.Spans.{AtPlace, Outside, PlaceWritten}
use Rattle.netmap.proofs.Decoding.{decode_places, decode_laid_out}
use Rattle.netmap.proofs.Layouts.{LaysOut, lays_out_encode, image_lays_out}
use Rattle.netmap.proofs.Soundness.{sound_with}

-- the other places are as they were
pub place_kept : (old new : List ℕ) (m p k : ℕ) (o q : Option Link) → (k ≡ p → ⊥) → k < m → p < m → PlaceWritten old new m p o → AtPlace old m k q → AtPlace new m k q
place_kept old new m p k o q ne km pm w at = record {
  ends = λ j h.
      w.elsewhere (ends_at k + j) (record {
        ends = ⊎_elim (λ (lo : k < p). inl (omega arith)) (λ (hi : p ≤ k). inr (omega arith)) (cases_lt k p);
        figures = inl (omega arith);
      }) ∙ at.ends j h;
  figures = λ j h.
      w.elsewhere (figures_at m k + j) (record {
        ends = inr (omega arith);
        figures = ⊎_elim (λ (lo : k < p). inl (omega arith)) (λ (hi : p ≤ k). inr (omega arith)) (cases_lt k p);
      }) ∙ at.figures j h;
}

-- the sizes and what lies past the image are no place's bytes
pub sizes_outside : (m p j : ℕ) → j < 4 → Outside m p j
sizes_outside m p j h = record { ends = inl (omega arith); figures = inl (omega arith) }

pub past_outside : (m p i : ℕ) → p < m → image_size m ≤ i → Outside m p i
past_outside m p i lt h = record { ends = inr (omega arith); figures = inr (omega arith) }

at_set : (bs : List ℕ) (m k p : ℕ) (ls : List (Option Link)) (o : Option Link) → p < length ls → ((k ≡ p → ⊥) → AtPlace bs m k (get_or ls k None)) → AtPlace bs m p o → AtPlace bs m k (get_or (set ls p o) k None)
at_set bs m k p ls o lt other here = grind (arith, common_steps)

change_lays_out : (old new : List ℕ) (net : Net) (p : ℕ) (o : Option Link) → LaysOut old net → p < places net → PlaceWritten old new (places net) p o → LaysOut new (with_place net p o)
change_lays_out old new net p o s lt w =
    let m = places net in
    let lm : places (with_place net p o) ≡ m = length-set net.links p o in
    record {
      long = w.long ∙ s.long ∙ ap image_size (sym lm);
      sizes = λ j h. w.elsewhere j (sizes_outside m p j h) ∙ s.sizes j h ∙ ap (λ x. get_or (two_bytes net.nodes ++ two_bytes x) j 0) (sym lm);
      place = λ k h.
          let km : k < m = omega (arith, lm) in
          subst (λ x. AtPlace new x k (link_at (with_place net p o) k)) (sym lm)
          (at_set new m k p net.links o lt (λ ne. place_kept old new m p k o (link_at net k) ne km lt w (s.place k km)) w.here);
    }

-- what an image means once a place is written
pub record Changed (n m : ℕ) (old new : List ℕ) (p : ℕ) (o : Option Link) : Type 0 where
  pub means : decode n m new ≡ with_place (decode n m old) p o
  pub sound : Sound (decode n m new)
  pub whole : encode (decode n m new) ≡ new

pub changed : (n m : ℕ) (old new : List ℕ) (p : ℕ) (o : Option Link) → p < m → Sound (decode n m old) → encode (decode n m old) ≡ old → Fit n o → PlaceWritten old new m p o → Changed n m old new p o
changed n m old new p o lt s e fit w =
    let net = decode n m old in
    let dp : places net ≡ m = decode_places n m old in
    let within : p < places net = omega (arith, dp) in
    let net' = with_place net p o in
    let w' = subst (λ x. PlaceWritten old new x p o) (sym dp) w in
    let laid : LaysOut new net' = change_lays_out old new net p o (image_lays_out old net e) within w' in
    let s' : Sound net' = sound_with net p o within fit s in
    let lm : places net' ≡ m = length-set net.links p o ∙ dp in
    let means : decode n m new ≡ net' = subst (λ x. decode n x new ≡ net') lm (decode_laid_out new net' laid s') in
    record { means = means; sound = subst Sound (sym means) s'; whole = ap encode means ∙ lays_out_encode new net' laid }
