-- The records that are made, by what each is: a parameter for each word that is known then, in the order of the words. `before`
-- is the last record of the list that a record goes behind, one added, 0 for none. A word that is 0 here is unused or set
-- later: the index's links, a family, a node's instance, a scope's last records, and what one of a scope's records goes behind.
use Rattle.std.specs.Prelude.{ℕ}
use Rattle.journal_records.specs.declared.Record.{Record}
use Rattle.journal_records.specs.Records.{tag_map, tag_extern, tag_node, tag_id, tag_field, tag_interface, tag_statement, tag_order, tag_stored, tag_scope, tag_root, tag_route, tag_association, tag_instance}

-- the copy of a source id in a scope. home: the place of the scope's record; past: one past the copy's record
abbrev pub map_record : ℕ → ℕ → ℕ → ℕ → ℕ → Record
map_record home id copy past scope = record { tag = tag_map; a = home; b = id; c = copy; d = past; e = scope; f = 0; g = 0; h = 0; i = 0; j = 0; k = 0 }

-- a declared extern. out: its id in the output; slot: its document's; mark: which url is picked
abbrev pub extern_record : ℕ → ℕ → ℕ → ℕ → ℕ → ℕ → Record
extern_record document id out row slot mark = record { tag = tag_extern; a = document; b = id; c = out; d = row; e = slot; f = mark; g = 0; h = 0; i = 0; j = 0; k = 0 }

-- def: none as 2^32 - 1. fields, interfaces, statements and order: the last records of its lists, one added
abbrev pub node_record : ℕ → ℕ → ℕ → ℕ → ℕ → ℕ → ℕ → ℕ → ℕ → ℕ → Record
node_record scope source ty def origin id fields interfaces statements order =
    record { tag = tag_node; a = scope; b = source; c = ty; d = def; e = origin; f = id; g = fields; h = interfaces; i = statements; j = order; k = 0 }

-- a node that has no contents yet
abbrev pub reserved_record : ℕ → ℕ → Record
reserved_record scope source = node_record scope source 0 4294967295 0 0 0 0 0 0

abbrev pub id_record : ℕ → ℕ → Record
id_record id before = record { tag = tag_id; a = id; b = 0; c = 0; d = 0; e = 0; f = 0; g = 0; h = before; i = 0; j = 0; k = 0 }

-- is: 1 for an IS, to target; 0 for a value
abbrev pub field_record : ℕ → ℕ → ℕ → ℕ → ℕ → ℕ → ℕ → ℕ → Record
field_record name is target inferred ty class payload before =
    record { tag = tag_field; a = name; b = is; c = target; d = inferred; e = ty; f = class; g = payload; h = before; i = 0; j = 0; k = 0 }

-- declared: its type; target: none as 2^32 - 1; ty, class, payload: its value, class 0 for none
abbrev pub interface_record : ℕ → ℕ → ℕ → ℕ → ℕ → ℕ → ℕ → ℕ → Record
interface_record access declared name target ty class payload before =
    record { tag = tag_interface; a = access; b = declared; c = name; d = target; e = ty; f = class; g = payload; h = before; i = 0; j = 0; k = 0 }

-- a statement that is no ROUTE; id: of its node, PROTO or extern
abbrev pub statement_record : ℕ → ℕ → ℕ → Record
statement_record kind id before = record { tag = tag_statement; a = kind; b = id; c = 0; d = 0; e = 0; f = 0; g = 0; h = before; i = 0; j = 0; k = 0 }

-- a ROUTE. from, to: the ids of its ends, none as 2^32 - 1
abbrev pub route_statement_record : ℕ → ℕ → ℕ → ℕ → ℕ → ℕ → ℕ → Record
route_statement_record from_node from_field to_node to_field from to before =
    record { tag = tag_statement; a = 3; b = from_node; c = from_field; d = to_node; e = to_field; f = from; g = to; h = before; i = 0; j = 0; k = 0 }

-- a mark of a body's order
abbrev pub order_record : ℕ → ℕ → Record
order_record mark before = record { tag = tag_order; a = mark; b = 0; c = 0; d = 0; e = 0; f = 0; g = 0; h = before; i = 0; j = 0; k = 0 }

-- the value of an interface, by its name
abbrev pub stored_record : ℕ → ℕ → ℕ → ℕ → ℕ → Record
stored_record name ty class payload before = record { tag = tag_stored; a = 0; b = name; c = 0; d = 0; e = ty; f = class; g = payload; h = before; i = 0; j = 0; k = 0 }

abbrev pub scope_record : ℕ → ℕ → ℕ → ℕ → ℕ → ℕ → Record
scope_record kind document proto index opener number = record { tag = tag_scope; a = kind; b = document; c = proto; d = index; e = opener; f = number; g = 0; h = 0; i = 0; j = 0; k = 0 }

-- an extra root of a scope
abbrev pub root_record : ℕ → ℕ → Record
root_record scope node = record { tag = tag_root; a = scope; b = node; c = 0; d = 0; e = 0; f = 0; g = 0; h = 0; i = 0; j = 0; k = 0 }

-- a route of a scope, as it stands in the body
abbrev pub route_record : ℕ → ℕ → ℕ → ℕ → ℕ → ℕ → ℕ → Record
route_record scope from_node from_field to_node to_field from to =
    record { tag = tag_route; a = scope; b = from_node; c = from_field; d = to_node; e = to_field; f = from; g = to; h = 0; i = 0; j = 0; k = 0 }

abbrev pub association_record : ℕ → ℕ → ℕ → ℕ → Record
association_record scope interface node field = record { tag = tag_association; a = scope; b = interface; c = node; d = field; e = 0; f = 0; g = 0; h = 0; i = 0; j = 0; k = 0 }

-- roots, routes, associations: the last records of its scope's lists, one added; nested: the instance in it, one added
abbrev pub instance_record : ℕ → ℕ → ℕ → ℕ → ℕ → ℕ → Record
instance_record scope name roots routes associations nested =
    record { tag = tag_instance; a = scope; b = name; c = roots; d = routes; e = associations; f = 0; g = 0; h = nested; i = 0; j = 0; k = 0 }
