-- The path to what a new model does not keep of an old one, in the text of the old one.
use Rattle.std.specs.Prelude.{List, codes, ℕ}
use Rattle.model_keys.specs.Finding.{element}
use Rattle.model_growth.specs.declared.growth.Unkept.{Unkept}
use Rattle.model_growth.specs.declared.growth.Unkept.TheVariants.{Releases, Systems, Segment, IdocType, Kind, Message, Reduced}

-- the section, and of one entry its place there
abbrev pub path_of : Unkept → List ℕ
path_of Releases = codes "releases"
path_of Systems = codes "system"
path_of (Segment place) = element (codes "segment") place
path_of (IdocType place) = element (codes "idoctype") place
path_of (Kind place) = element (codes "kind") place
path_of (Message place) = element (codes "message") place
path_of (Reduced place) = element (codes "reduced") place
