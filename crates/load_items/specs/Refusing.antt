-- Where nothing is read the item is refused.
use Rattle.load_openings.specs.declared.cursor.Unread.{Unread}
use Rattle.load_openings.specs.declared.cursor.Unread.TheVariants as unread
use Rattle.load_items.specs.declared.refused.Refused.{Refused}
use Rattle.load_items.specs.declared.refused.Refused.TheVariants.{Malformed, Exceeded}

abbrev pub refused_as : Unread → Refused
refused_as (unread.Malformed place) = Malformed place
refused_as unread.Exceeded = Exceeded
