pub mod HolderFields
pub mod HolderForms
pub mod StableLends
