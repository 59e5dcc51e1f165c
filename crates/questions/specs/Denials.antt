-- The numbers of the questions, and the text of a denial.
use Rattle.std.specs.Prelude.{ℕ, List, ◌++◌, codes, decimal}
use Rattle.questions.specs.declared.denial.Denial.{Denial}
use Rattle.questions.specs.declared.denial.Layer.{Layer}
use Rattle.questions.specs.declared.denial.Layer.TheVariants as layer
use Rattle.questions.specs.declared.denial.Question.{Question}
use Rattle.questions.specs.declared.denial.Question.TheVariants as question

abbrev pub number_of : Question → ℕ
number_of question.NodeCount = 1
number_of question.PlaceCount = 2
number_of question.HeaderBytes = 3
number_of question.ImageLength = 4
number_of question.EndsExist = 5
number_of question.EndsDiffer = 6
number_of question.WeightPositive = 7
number_of question.DelayLimit = 8
number_of question.FigureLimit = 9
number_of question.EmptyBlank = 10
number_of question.PlaceExists = 11
number_of question.PlaceFilled = 12
number_of question.StoreSpace = 13
number_of question.OrderNodes = 14
number_of question.LabelLimit = 15
number_of question.GrainRange = 16
number_of question.BoundGrains = 17
number_of question.WorkingSpace = 18
number_of question.ListSpace = 19
number_of question.AnyList = 20
number_of question.FrontSpace = 21
number_of question.WalkLength = 22
number_of question.EntryLegal = 23
number_of question.KeeperSlot = 24
number_of question.SheetHeader = 25
number_of question.OrderCount = 26
number_of question.SheetLength = 27

abbrev pub layer_text : Layer → List ℕ
layer_text layer.Map = codes "map"
layer_text layer.List = codes "list"
layer_text layer.File = codes "file"
layer_text layer.Order = codes "order"

abbrev pub told : Question → Layer → ℕ → Denial
told question layer place = record { question = question; layer = layer; place = place }

-- asked of a place of the map, of so many bytes, of an order and of an entry
abbrev pub of_map : Question → ℕ → Denial
of_map question place = told question layer.Map place

abbrev pub of_file : Question → ℕ → Denial
of_file question count = told question layer.File count

abbrev pub of_order : Question → ℕ → Denial
of_order question index = told question layer.Order index

abbrev pub of_list : Question → ℕ → Denial
of_list question index = told question layer.List index

-- the text of a denial
abbrev pub refusal : Denial → List ℕ
refusal d = codes "refused " ++ (decimal (number_of d.question) ++ (codes " " ++ (layer_text d.layer ++ (codes " " ++ decimal d.place))))
