mod LineFeeds
mod Pages
mod PageTexts
