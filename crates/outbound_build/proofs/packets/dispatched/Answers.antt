use Rattle.outbound_build.proofs.CollectLemmas.{collecting}
use Rattle.outbound_build.proofs.packets.dispatched.Goals as goal

pub add_packets-requires : goal.add_packets-requires
add_packets-requires c = collecting c.args.model.now c.loop-place.place c.outbound-profile.result.now c.as_lists.ensures.kept c.outbound-profile.ensures
