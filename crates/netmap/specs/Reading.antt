-- What the bytes of an image say, and what opening asks of them.
use Rattle.std.specs.Prelude.{ℕ, ◌+◌, ◌*◌, Bool, cond, ◌&&◌, List, [], ◌∷◌, ◌++◌, map, length, Some, None, Option, ◌==◌, nat_le, slice_index}
use Rattle.std.specs.List.{range_with_len, flat_map}
use Rattle.questions.specs.declared.denial.Denial.{Denial}
use Rattle.questions.specs.declared.denial.Question.TheVariants.{HeaderBytes, ImageLength, EmptyBlank}
use Rattle.netmap.specs.declared.link.Link.{Link}
use Rattle.netmap.specs.declared.link.Microseconds.{Microseconds}
use Rattle.netmap.specs.declared.sizes.Sizes.{Sizes}
use Rattle.questions.specs.Asking.{Asked, asks, first_no}
use Rattle.netmap.specs.Changes.{link_questions}
use Rattle.questions.specs.Denials.{of_map, of_file}
use Rattle.netmap.specs.Layout.{image_size}
use Rattle.netmap.specs.Net.{Net}
use Rattle.netmap.specs.Opening.{no_places, size_questions}

abbrev pub two_at : List ℕ → ℕ → ℕ
two_at bs i = slice_index bs i * 256 + slice_index bs (i + 1)

abbrev pub four_at : List ℕ → ℕ → ℕ
four_at bs i = slice_index bs i * 16777216 + slice_index bs (i + 1) * 65536 + slice_index bs (i + 2) * 256 + slice_index bs (i + 3)

-- where the ends of a place stand, and in an image of so many places its figures
abbrev pub ends_at : ℕ → ℕ
ends_at p = 4 + 2 * p

abbrev pub figures_at : ℕ → ℕ → ℕ
figures_at count p = 4 + 2 * count + 10 * p

abbrev pub microseconds : ℕ → Microseconds
microseconds n = record { 0 = n }

-- the fields of a place, whatever they hold
abbrev pub link_in : ℕ → List ℕ → ℕ → Link
link_in count bs p = record {
  tail = slice_index bs (ends_at p);
  head = slice_index bs (ends_at p + 1);
  weight = two_at bs (figures_at count p);
  delay = microseconds (four_at bs (figures_at count p + 2));
  figure = four_at bs (figures_at count p + 6);
}

-- FF FF for the ends
abbrev pub marked_empty : Link → Bool
marked_empty l = l.tail == 255 && l.head == 255

-- ten bytes that are all 00
abbrev pub blank : Link → Bool
blank l = l.weight == 0 && (l.delay.0 == 0 && l.figure == 0)

abbrev pub place_of : Link → Option Link
place_of l = cond (marked_empty l) None (Some l)

abbrev pub decode : ℕ → ℕ → List ℕ → Net
decode nodes count bs = record { nodes = nodes; links = map (λ p. place_of (link_in count bs p)) (range_with_len 0 count) }

-- with no places until the sizes are settled
abbrev pub net_in : Option Sizes → List ℕ → Net
net_in None bs = no_places
net_in (Some s) bs = decode s.nodes s.places bs

-- of an empty place its figures, of another its link
abbrev pub field_questions : ℕ → Link → ℕ → List Asked
field_questions nodes l p = cond (marked_empty l) (asks (of_map EmptyBlank p) (blank l) ∷ []) (link_questions nodes l p)

abbrev pub header_questions : List ℕ → List Asked
header_questions bs =
    asks (of_file HeaderBytes (length bs)) (nat_le 4 (length bs))
    ∷ (size_questions (two_at bs 0) (two_at bs 2)
    ++ asks (of_file ImageLength (length bs)) (length bs == image_size (two_at bs 2))
    ∷ [])

-- of the sizes and the length, then of each place in turn
abbrev pub image_questions : List ℕ → List Asked
image_questions bs =
    header_questions bs
    ++ flat_map (λ p. field_questions (two_at bs 0) (link_in (two_at bs 2) bs p) p) (range_with_len 0 (two_at bs 2))

abbrev pub image_denial : List ℕ → Option Denial
image_denial bs = first_no (image_questions bs)
