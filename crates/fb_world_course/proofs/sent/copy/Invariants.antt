use Rattle.std.proofs.Common.{◌≡◌, ◌++◌, map, drop}
use Rattle.fb_wire.specs.Views.{typed_of}
use Rattle.fb_world_course.proofs.sent.copy.Given as goal

-- the copy is the message, but for the values to come
abbrev pub invariant-loop-typed : goal.invariant-loop-typed
invariant-loop-typed l = record {
  purpose : l.copy.purpose ≡ l.message.purpose;
  number : l.copy.number ≡ l.message.number;
  stamp : l.copy.stamp ≡ l.message.stamp;
  values : l.copy.values ++ map typed_of (drop l.typed-index l.values) ≡ l.message.values;
}
