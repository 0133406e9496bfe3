use Rattle.std.proofs.Common.{◌≡◌, ◌<◌, ℕ, Option, None, arith}
use Rattle.dist_model.specs.Model.{system_named}
use Rattle.dist_model.proofs.SystemLemmas.{number-found, number-none, found-named, found-none}
use Rattle.dist_model.proofs.model.Model.system.Goals as goal

pub returns-in-Some : goal.returns-in-Some
returns-in-Some c =
    let model = c.args.self.now in
    let name = c.args.name.now in
    let few : c.in-Some.place < 16 = omega (arith, c.in-Some.ensures.within, c.place_named.ensures.kept.systems.few) in
    let found : c.of.result ≡ system_named name model =
    number-found model name c.place_named.result c.place_named.ensures.place c.of.result c.in-Some.place c.in-Some.is few c.of.ensures.found
    c.of.ensures.none in record {
      found = found;
      named = found-named model name _ found c.place_named.ensures.kept;
      none = found-none model name _ found;
    }

pub returns-in-None : goal.returns-in-None
returns-in-None c =
    let model = c.args.self.now in
    let name = c.args.name.now in
    let found : ◌≡◌ {A = Option ℕ} None (system_named name model) = number-none model name c.place_named.result c.place_named.ensures.place
    c.in-None.is in record {
      found = found;
      named = found-named model name _ found c.place_named.ensures.kept;
      none = found-none model name _ found;
    }
