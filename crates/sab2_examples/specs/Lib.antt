-- Examples of whole files of either form.
pub mod Examples
