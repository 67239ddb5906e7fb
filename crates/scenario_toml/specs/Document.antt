-- The lines that a scenario in TOML stands for, in the order of its keys: `version`, `group`, `ident`, `subgroups`, `sinks` and
-- `steps`. Of a value, `Some` is the lines and `None` that the document has not this form. The form is this project's own:
-- TOML is its notation alone.
use Rattle.std.specs.Prelude.{ℕ, ◌==◌, List, [], ◌∷◌, Option, None, Some, if◌then◌else◌, codes}
use Rattle.std.specs.List.{list_any}
use Rattle.std.specs.Str.{is_utf8}
use Rattle.std.specs.Option.{option_and_then}
use Rattle.bcast_io.specs.TextLines.{newline}
use Rattle.toml.specs.Data.{Data, as_str, as_array, Items, no_items, item, Members, get_member}
use Rattle.toml.specs.Parse.{parse_document}
use Rattle.scenario_toml.specs.Parts.{both, required, where_given, items_of}
use Rattle.scenario_toml.specs.Words.{Field, text, number, field, words, spaced_text, spaced_number}
use Rattle.scenario_toml.specs.Tables.{table_with, only_has, line}

abbrev pub rows : (Data → Option (List ℕ)) → Data → Option (List ℕ)
rows part value = items_of part (as_array value)

abbrev pub group_fields : List Field
group_fields = text (codes "framing") ∷ number (codes "origin") ∷ number (codes "delay") ∷ number (codes "iso") ∷ number (codes "sdu")
    ∷ number (codes "max_sdu") ∷ number (codes "max_pdu") ∷ number (codes "num_bis") ∷ number (codes "bn") ∷ number (codes "nse")
    ∷ number (codes "irc") ∷ number (codes "pto") ∷ number (codes "sub") ∷ number (codes "spacing") ∷ number (codes "phy") ∷ []

unfoldable pub group_line : Data → Option (List ℕ)
group_line = table_with group_fields [] (λ group. line (codes "group") (words group_fields group))

abbrev pub ident_fields : List Field
ident_fields = number (codes "type") ∷ text (codes "address") ∷ number (codes "sid") ∷ text (codes "id") ∷ []

unfoldable pub ident_line : Data → Option (List ℕ)
ident_line = table_with ident_fields [] (λ ident. line (codes "ident") (words ident_fields ident))

abbrev pub bis_fields : List Field
bis_fields = number (codes "index") ∷ text (codes "config") ∷ []

unfoldable pub bis_line : Data → Option (List ℕ)
bis_line = table_with bis_fields [] (λ bis. line (codes "bis") (words bis_fields bis))

abbrev pub meta_line : Data → Option (List ℕ)
meta_line metadata = line (codes "meta") (spaced_text metadata)

abbrev pub subgroup_fields : List Field
subgroup_fields = text (codes "codec") ∷ text (codes "config") ∷ []

abbrev pub subgroup_others : List (List ℕ)
subgroup_others = codes "meta" ∷ codes "bis" ∷ []

unfoldable pub subgroup_lines : Data → Option (List ℕ)
subgroup_lines = table_with subgroup_fields subgroup_others (λ subgroup.
    both (line (codes "subgroup") (words subgroup_fields subgroup))
    (both (where_given meta_line (get_member (codes "meta") subgroup))
    (where_given (rows bis_line) (get_member (codes "bis") subgroup))))

abbrev pub sink_number : Members → Option (List ℕ)
sink_number sink = field (number (codes "number")) sink

abbrev pub pac_fields : List Field
pac_fields = text (codes "codec") ∷ text (codes "caps") ∷ text (codes "meta") ∷ []

unfoldable pub pac_line : Members → Data → Option (List ℕ)
pac_line sink = table_with pac_fields [] (λ pac. line (codes "pac") (both (sink_number sink) (words pac_fields pac)))

abbrev pub locate_line : Members → Data → Option (List ℕ)
locate_line sink locations = line (codes "locate") (both (sink_number sink) (spaced_text locations))

abbrev pub two_texts : Option Items → Option (List ℕ)
two_texts (Some (item first (item second no_items))) = both (spaced_text first) (spaced_text second)
two_texts _ = None

abbrev pub context_line : Members → Data → Option (List ℕ)
context_line sink contexts = line (codes "context") (both (sink_number sink) (two_texts (as_array contexts)))

abbrev pub sink_fields : List Field
sink_fields = number (codes "number") ∷ number (codes "streams") ∷ number (codes "slots") ∷ []

abbrev pub sink_others : List (List ℕ)
sink_others = codes "mtu" ∷ codes "pacs" ∷ codes "locations" ∷ codes "contexts" ∷ []

abbrev pub sink_words : List Field → Members → Option (List ℕ)
sink_words fields sink = both (words fields sink) (where_given spaced_number (get_member (codes "mtu") sink))

abbrev pub sink_line : List Field → Members → Option (List ℕ)
sink_line fields sink = line (codes "sink") (sink_words fields sink)

unfoldable pub sink_lines : Data → Option (List ℕ)
sink_lines = table_with sink_fields sink_others (λ sink.
    both (sink_line sink_fields sink)
    (both (where_given (rows (pac_line sink)) (get_member (codes "pacs") sink))
    (both (where_given (locate_line sink) (get_member (codes "locations") sink))
    (where_given (context_line sink) (get_member (codes "contexts") sink)))))

abbrev pub step_text : Option (List ℕ) → Option (List ℕ)
step_text step = option_and_then (λ octets. if list_any (λ octet. octet == newline) octets then None else Some octets) step

unfoldable pub step_line : Data → Option (List ℕ)
step_line step = both (step_text (as_str step)) (Some (newline ∷ []))

abbrev pub document_fields : List Field
document_fields = number (codes "version") ∷ []

abbrev pub document_others : List (List ℕ)
document_others = codes "group" ∷ codes "ident" ∷ codes "subgroups" ∷ codes "sinks" ∷ codes "steps" ∷ []

unfoldable pub lines_in : Members → Option (List ℕ)
lines_in document = both (line (codes "scenario") (words document_fields document))
    (both (where_given group_line (get_member (codes "group") document))
    (both (where_given ident_line (get_member (codes "ident") document))
    (both (where_given (rows subgroup_lines) (get_member (codes "subgroups") document))
    (both (where_given (rows sink_lines) (get_member (codes "sinks") document))
    (required (rows step_line) (get_member (codes "steps") document))))))

-- What octets mean: no document in TOML, a document that has not the form, or the text of lines that it stands for.
pub data Meaning : Type 0 where
  no_toml : Meaning
  no_form : Meaning
  lines : List ℕ → Meaning

abbrev pub meaning_in_form : Option (List ℕ) → Meaning
meaning_in_form None = no_form
meaning_in_form (Some octets) = lines octets

abbrev pub meaning_in_keys : Members → Meaning
meaning_in_keys members = meaning_in_form (if only_has document_fields document_others members then lines_in members else None)

abbrev pub meaning_of_members : Option Members → Meaning
meaning_of_members None = no_toml
meaning_of_members (Some members) = meaning_in_keys members

-- A document is octets in UTF-8 that the grammar of TOML takes.
unfoldable pub meaning_of : List ℕ → Meaning
meaning_of octets = if is_utf8 octets then meaning_of_members (parse_document octets) else no_toml
