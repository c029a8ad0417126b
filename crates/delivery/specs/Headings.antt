-- What a message says of itself, beside its lines. Assumes nothing.
--
-- heading_of m    the heading of the message m; a Learn, which is for anyone, has no more than its sender
use Rattle.protocol.specs.declared.message.Message.{Message}
use Rattle.protocol.specs.declared.message.Message.TheVariants.{Prepare, Proposal, Promise, Report, Learn}
use Rattle.delivery.specs.declared.heading.Heading.{Heading}

abbrev pub heading_of : {L : Type 0} → Message L → Heading
heading_of (Prepare f t e c) = record { from = f; to = t; epoch = e; claim = c }
heading_of (Proposal f t e c k l) = record { from = f; to = t; epoch = e; claim = c }
heading_of (Promise f t e c n) = record { from = f; to = t; epoch = e; claim = c }
heading_of (Report f t e c k l) = record { from = f; to = t; epoch = e; claim = c }
heading_of (Learn f k l) = record { from = f; to = 0; epoch = 0; claim = 0 }
