pub mod TextLaws
