-- What has to be known of the stays in one regular configuration.
use Rattle.totem_evs.specs.Answers.{MeetsPasses}
use Rattle.totem_pass_d.specs.declared.stays.Stays.{Stays}
use Rattle.totem_pass_d.specs.Stays.{AreStays}
use Rattle.totem_pass_d.specs.Sends.{AreSends}

-- they are the stays of a run that meets the specifications of the first two passes
pub record AreKnown (stays : Stays) : Type 0 where
  pub meets : MeetsPasses stays.run.now.logs
  pub are : AreStays stays.run.now.logs stays.ring stays.list.items
  pub sent : AreSends stays.run.now.logs stays.ring stays.sends
