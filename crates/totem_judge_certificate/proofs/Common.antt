-- The names that most proofs here cite, passed on from one place. Declares nothing.
pub use Rattle.std.proofs.Common.{arith, refl, ◌∙◌, length, ap, sym, ◌≡◌, inl, inr, List, Some, ℕ, false, slice_get, true, ◌+◌, ◌<◌, ◌≤◌, Bool, Err, Ok, get_or, subst, IsTrue, None, Option, Result, ◌-◌, ◌↔◌, ◌≢◌, ◌⊎◌, Contains, IfSome, MatchBool, OnErr, [], below_more, not, slice_set, suc, zero, ◌^◌, ◌∷◌}
pub use Rattle.totem_outcome.proofs.Common.{Numbering, Rising, Matches, Log, slice_get-get_or, Place, slice_get_within, ClassesAreOne, TwinsAreApart, in_order, Certified, Answers, OthersShare, Rise, SendsAreBelow}
pub use Rattle.totem_evs.proofs.Common.{get_or_from_slice_get, MsgId, RunRecord}
pub use Rattle.std.proofs.lemmas.Option.{slice_get_read}
pub use Rattle.totem_evs.proofs.LogOf.{less_or_not}
pub use Rattle.totem_evs.specs.Classes.{AreOfOneClass, AreSendAndDelivery}
pub use Rattle.totem_evs.specs.LogRecord.{LogRecord}
pub use Rattle.totem_evs.specs.declared.entry.Entry.{Entry}
pub use Rattle.totem_evs.specs.declared.entry.Entry.TheVariants.{Conf, Deliver, Fail, Send}
pub use Rattle.totem_certificate.specs.Keeping.{IsCertificate, IsLine}
pub use Rattle.totem_outcome.proofs.Certain.{class_split, classes_one, sends_below, all_rise, is_certified, one_falls, others_apart, others_share, send_late}
pub use Rattle.totem_outcome.proofs.Matching.{as_many, matches_at}
pub use Rattle.totem_outcome.proofs.Standing.{in_stands, locate, one_in, at_index}
pub use Rattle.totem_outcome.specs.Each.{IsIn, EachEvent, EachPair, SomeEvent, SomePair, EachPast}
pub use Rattle.totem_outcome.specs.Kinds.{SendIsBelow, ClassIsSplit, NumberIsShared, SendIsNotBelow}
pub use Rattle.totem_outcome.specs.Numbered.{Stands, place}
pub use Rattle.totem_outcome.specs.Rising.{LinesRise, RisesBefore}
pub use Rattle.totem_judge_certificate.specs.ClassOf.{class_barred_by, class_of}
pub use Rattle.totem_judge_certificate.specs.Spreads.{AreEarlyTo, KnowsTo, Knows, Differs, IsEarly, IsEntered, IsKnown, IsLeastOf, IsNoted, IsTrueOf, least_of}
pub use Rattle.totem_judge_certificate.specs.Walks.{IsPassed, AreClasses, AreOneBefore, IsAhead, IsClean, IsCleanTo, IsLeastHead, IsLeastTo, IsStepped, IsUnclean, AreOne, IsHead, IsLesser, IsStepOf, NamesFault, NoneLeftTo}
