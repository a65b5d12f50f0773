pub mod StanzaLists
